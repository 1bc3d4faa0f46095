-- How far `switch` came.
use Rattle.std.proofs.Common.{◌≡◌, ◌<◌, ℕ, zero, suc, Bool, List, [], ◌∷◌, length, Option, Some, Result, Ok, Err, refl, sym, ap, subst, arith}
use Rattle.dim_base.specs.Files.{Named, with_file}
use Rattle.dim_signature.specs.Sig.{Sig, switched as sig_switched}
use Rattle.dim_signature.specs.Catalogue.{changed_at}
use Rattle.dim_history_file.specs.Spelling.{history_text}
use Rattle.dim_history_file.specs.Value.{NamedSig, named, named_sig}
use Rattle.dim_inquiry.specs.declared.report.Report.{Report}
use Rattle.dim_inquiry.specs.declared.stop.Place.TheVariants.{NewHistory}
use Rattle.dim_inquiry.specs.declared.stop.Stop.{Stop}
use Rattle.dim_inquiry.specs.declared.stop.Stop.TheVariants as stops
use Rattle.dim_words.specs.Words.{SwitchWords}
use Rattle.dim_inquiry.specs.Switch.{switched_at, switched, numbers, switches, switch_course}
use Rattle.dim_inquiry.specs.Course.{Course, Stops, Runs, after_calls, gives, stores, ◌>>=◌}
use Rattle.dim_inquiry.specs.Taking.{fetches_history, reads}
use Rattle.dim_inquiry.proofs.CourseLemmas.{Stops-first, Runs-behind}

-- the signatures of a table, one of them in another state
pub named_switched : (names : List (List ℕ)) (sigs : List Sig) (i : ℕ) (on : Bool) → i < length sigs → named names (changed_at i (sig_switched on) sigs) ≡ switched_at i on (named names sigs)
named_switched names [] i on low = absurd (omega (arith, low))
named_switched names (s ∷ sigs) zero on low = refl
named_switched names (s ∷ sigs) (suc i) on low = ap (λ ss. named_sig names s ∷ ss) (named_switched names sigs i on (omega (arith, low)))

-- ---- the text

abbrev same : List NamedSig → List NamedSig
same sigs = sigs

abbrev behind_reading : SwitchWords → List NamedSig → Course (List NamedSig)
behind_reading w sigs = numbers sigs w.index >>= λ there. gives (switched_at w.index w.on sigs)

pub at_text : (w : SwitchWords) (bytes : List ℕ) (files : Named) (stop : Stop) (after : Option Named) → Stops (reads bytes) files stop after → Stops (switches w bytes) files stop after
unfolding switches
at_text w bytes files stop after h = Stops-first (reads bytes) (behind_reading w) files stop after h

read_then : (w : SwitchWords) (bytes : List ℕ) (sigs : List NamedSig) (files : Named) (r : Result (List NamedSig) Stop) (after : Option Named) → (reads bytes).ending ≡ Ok sigs
    → Runs same (behind_reading w sigs) files r after → Runs same (switches w bytes) files r after
unfolding switches
read_then w bytes sigs files r after read h = Runs-behind (reads bytes) (behind_reading w) same files sigs r after read h

pub at_number : (w : SwitchWords) (bytes : List ℕ) (sigs : List NamedSig) (files : Named) (stop : Stop) (after : Option Named) → (reads bytes).ending ≡ Ok sigs
    → Stops (numbers sigs w.index) files stop after → Stops (switches w bytes) files stop after
at_number w bytes sigs files stop after read h =
    read_then w bytes sigs files (Err stop) after read (Stops-first (numbers sigs w.index) (λ there. gives (switched_at w.index w.on sigs)) files stop after h)

pub at_switched : (w : SwitchWords) (bytes : List ℕ) (sigs : List NamedSig) (files : Named) → (reads bytes).ending ≡ Ok sigs
    → Runs (λ (u : Unit {0}). u) (numbers sigs w.index) files (Ok tt) (Some files) → Runs same (switches w bytes) files (Ok (switched_at w.index w.on sigs)) (Some files)
at_switched w bytes sigs files read h =
    read_then w bytes sigs files (Ok (switched_at w.index w.on sigs)) (Some files) read (
    Runs-behind (numbers sigs w.index) (λ there. gives (switched_at w.index w.on sigs)) same files tt (Ok (switched_at w.index w.on sigs)) (Some files) h.0 (refl, h.1)
    )

-- ---- the whole command

abbrev identity : Report → Report
identity r = r

abbrev behind_switch : SwitchWords → List NamedSig → Course Report
behind_switch w sigs = stores NewHistory w.new_history (history_text sigs) >>= λ stored. gives (switched w.index w.on)

abbrev behind_fetch : SwitchWords → List ℕ → Course Report
behind_fetch w bytes = switches w bytes >>= behind_switch w

pub at_fetch : (files : Named) (w : SwitchWords) (stop : Stop) (after : Option Named) → Stops (fetches_history files w.history) files stop after → Stops (switch_course files w) files stop after
unfolding switch_course
at_fetch files w stop after h = Stops-first (fetches_history files w.history) (behind_fetch w) files stop after h

-- the files after calls that leave them as they were
pub stays : (files after : Named) → ◌≡◌ {A = Option Named} (Some files) (Some after) → after ≡ files
stays files after e = cc

-- a history was fetched, and these are its bytes
pub record IsFetched (files : Named) (w : SwitchWords) (bytes : List ℕ) : Type 0 where
  pub got : (fetches_history files w.history).ending ≡ Ok bytes
  pub kept : after_calls (fetches_history files w.history).calls files ≡ files

behind : (files : Named) (w : SwitchWords) (bytes : List ℕ) (r : Result Report Stop) (after : Option Named) → IsFetched files w bytes
    → Runs identity (behind_fetch w bytes) files r after → Runs identity (switch_course files w) files r after
unfolding switch_course
behind files w bytes r after f h =
    Runs-behind (fetches_history files w.history) (behind_fetch w) identity files bytes r after f.got (subst (λ m. Runs identity (behind_fetch w bytes) m r after) (sym f.kept) h)

pub at_switching : (files : Named) (w : SwitchWords) (bytes : List ℕ) (stop : Stop) (after : Option Named) → IsFetched files w bytes → Stops (switches w bytes) files stop after → Stops (switch_course files w) files stop after
at_switching files w bytes stop after f h = behind files w bytes (Err stop) after f (Stops-first (switches w bytes) (behind_switch w) files stop after h)

-- behind the text of the history
switched_then : (files : Named) (w : SwitchWords) (bytes : List ℕ) (sigs : List NamedSig) (r : Result Report Stop) (after : Option Named) → IsFetched files w bytes
    → (switches w bytes).ending ≡ Ok sigs → after_calls (switches w bytes).calls files ≡ files → Runs identity (behind_switch w sigs) files r after → Runs identity (switch_course files w) files r after
switched_then files w bytes sigs r after f is calls h =
    behind files w bytes r after f (Runs-behind (switches w bytes) (behind_switch w) identity files sigs r after is (subst (λ m. Runs identity (behind_switch w sigs) m r after) (sym calls) h))

pub at_building : (files : Named) (w : SwitchWords) (bytes : List ℕ) (sigs : List NamedSig) (after : Option Named) → IsFetched files w bytes
    → (switches w bytes).ending ≡ Ok sigs → after_calls (switches w bytes).calls files ≡ files → after ≡ Some files → Stops (switch_course files w) files stops.OutOfMemory after
at_building files w bytes sigs after f is calls e =
    switched_then files w bytes sigs (Err stops.OutOfMemory) after f is calls (record { made = []; left = (behind_switch w sigs).calls; order = refl; files = e })

pub at_storing : (files : Named) (w : SwitchWords) (bytes : List ℕ) (sigs : List NamedSig) (stop : Stop) (after : Option Named) → IsFetched files w bytes
    → (switches w bytes).ending ≡ Ok sigs → after_calls (switches w bytes).calls files ≡ files
    → Stops (stores NewHistory w.new_history (history_text sigs)) files stop after → Stops (switch_course files w) files stop after
at_storing files w bytes sigs stop after f is calls h =
    switched_then files w bytes sigs (Err stop) after f is calls (Stops-first (stores NewHistory w.new_history (history_text sigs)) (λ stored. gives (switched w.index w.on)) files stop after h)

pub at_end : (files : Named) (w : SwitchWords) (bytes : List ℕ) (sigs : List NamedSig) (after : Option Named) → IsFetched files w bytes
    → (switches w bytes).ending ≡ Ok sigs → after_calls (switches w bytes).calls files ≡ files → after ≡ Some (with_file files w.new_history (Some (history_text sigs)))
    → Runs (λ (r : Report). r) (switch_course files w) files (Ok (switched w.index w.on)) after
at_end files w bytes sigs after f is calls e = switched_then files w bytes sigs (Ok (switched w.index w.on)) after f is calls (refl, e)
