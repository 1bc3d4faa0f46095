use Rattle.std.proofs.Common.{◌≡◌, ◌∙◌, ap, length, map, drop, arith}
use Rattle.std.specs.Prelude.{reverse}
use Rattle.std.proofs.lemmas.List.{length-map}
use Rattle.dim_run.specs.declared.living.seat.Seat.{Seat}
use Rattle.dim_run.proofs.Seated.{written}
use Rattle.dim_run.proofs.Swapped.{same_machines, passes_in_order, back_in_order}
use Rattle.dim_run.proofs.living.seating.exchange_passes.Goals as goal

-- as many seats stay
many : (c : goal.After-passes-3-1) → length c.swap_passes.new.seats ≡ c.args.seats.now.len
many c =
    let e : length (map (λ (s : Seat). s.machine) c.swap_passes.new.seats) ≡ length (map (λ (s : Seat). s.machine) c.as_mut_slice-2.result.now) = ap (λ xs. length xs) c.swap_passes.ensures.machines in
    omega (arith, e, length-map c.swap_passes.new.seats (λ (s : Seat). s.machine), length-map c.as_mut_slice-2.result.now (λ (s : Seat). s.machine), c.as_mut_slice-2.ensures.len)

pub returns-clause-machines : goal.returns-clause-machines
returns-clause-machines c =
    ap (λ (x : _). map (λ (s : Seat). s.machine) (reverse x)) (written c.args.seats.now.len c.swap_passes.new.seats (drop (length c.swap_passes.new.seats) c.args.seats.now.items) (many c))
    ∙ same_machines (λ (s : Seat). s.machine) (λ (s : Seat). s.pass) c.args.seats.now.items c.swap_passes.new.seats c.args.passes.now.items c.reverse.new.self c.swap_passes.new.passes
    (c.swap_passes.ensures.machines ∙ ap (map (λ (s : Seat). s.machine)) c.as_mut_slice-2.ensures.value)

pub returns-clause-passes : goal.returns-clause-passes
returns-clause-passes c =
    ap (λ (x : _). map (λ (s : Seat). s.pass) (reverse x)) (written c.args.seats.now.len c.swap_passes.new.seats (drop (length c.swap_passes.new.seats) c.args.seats.now.items) (many c))
    ∙ passes_in_order (λ (s : Seat). s.machine) (λ (s : Seat). s.pass) c.args.seats.now.items c.swap_passes.new.seats c.args.passes.now.items c.reverse.new.self c.swap_passes.new.passes
    (c.reverse.ensures.after ∙ ap reverse c.as_mut_slice.ensures.value)
    (c.swap_passes.ensures.passes ∙ c.as_mut_slice-3.ensures.value ∙ written c.args.passes.now.len c.reverse.new.self (drop (length c.reverse.new.self) c.args.passes.now.items) (omega (arith, c.reverse.ensures.len, c.as_mut_slice.ensures.len)))

pub returns-clause-back : goal.returns-clause-back
returns-clause-back c =
    let e : length c.swap_passes.new.passes ≡ length (map (λ (s : Seat). s.pass) c.as_mut_slice-2.result.now) = ap (λ xs. length xs) c.swap_passes.ensures.back in
    let n : length c.swap_passes.new.passes ≡ c.args.passes.now.len =
    (let a : length c.as_mut_slice-2.result.now ≡ length c.args.seats.now.items = ap (λ xs. length xs) c.as_mut_slice-2.ensures.value in
    let b : length c.as_mut_slice.result.now ≡ length c.args.passes.now.items = ap (λ xs. length xs) c.as_mut_slice.ensures.value in
    omega (arith, e, length-map c.as_mut_slice-2.result.now (λ (s : Seat). s.pass), a, b, c.requires.each, c.as_mut_slice.ensures.len)) in
    written c.args.passes.now.len c.reverse-2.new.self _ (omega (arith, c.reverse-2.ensures.len, c.as_mut_slice-4.ensures.len))
    ∙ c.reverse-2.ensures.after
    ∙ ap reverse (c.as_mut_slice-4.ensures.value ∙ written c.args.passes.now.len c.swap_passes.new.passes _ n)
    ∙ back_in_order (λ (s : Seat). s.machine) (λ (s : Seat). s.pass) c.args.seats.now.items c.swap_passes.new.seats c.args.passes.now.items c.reverse.new.self c.swap_passes.new.passes
    (c.swap_passes.ensures.back ∙ ap (map (λ (s : Seat). s.pass)) c.as_mut_slice-2.ensures.value)
