-- The seats of a round at a gate whose history is empty.
use Rattle.std.proofs.Common.{◌≡◌, ℕ, ◌<◌, refl, ap, sym, subst, List, []}
use Rattle.dim_asm.specs.Code.{Code, thread_count}
use Rattle.dim_rag.specs.declared.entry.Entry.{Entry}
use Rattle.dim_rag.specs.History.{past}
use Rattle.dim_vm.specs.Configuration.{Configuration}
use Rattle.dim_vm.specs.Fitting.{FitsMachine}
use Rattle.dim_run.specs.Callers.{Opening, Known}
use Rattle.dim_run.specs.Seats.{IsSeated}

-- what the pass of caller i knows before it has asked, where this was entered before
abbrev pub unasked : ℕ → List Entry → Known
unasked i h = record { number = i; seen = h; mine = []; left = 3 }

-- a machine at its start, with the pass of its thread
pub seated : (p : Code) (o : Opening) (i : ℕ) (c : Configuration) (k : Known) → o.history ≡ [] → k ≡ unasked i [] → i < o.callers → i < thread_count p → c.thread ≡ record { 0 = i } → FitsMachine p c [] → IsSeated p o c k
seated p o i c k empty is caller low thread fits = subst (λ (x : Known). IsSeated p o c x) (sym is) record {
  caller = record {
    low = caller;
    led = record { made = []; longer = ap past (sym empty); adds = tt; own = refl };
  };
  thread = thread;
  low = low;
  fits = fits;
}
