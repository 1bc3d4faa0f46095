-- What a thread gets that is broken out.
use Rattle.std.proofs.Common.{◌≡◌, ap, sym, ◌∙◌, subst, List, length}
use Rattle.std.specs.Prelude.{Option, option_map}
use Rattle.dim_base.specs.declared.Tid.{Tid}
use Rattle.dim_rag.specs.declared.graph.row.Row.{Row}
use Rattle.dim_rag.specs.declared.entry.Entry.{Entry}
use Rattle.dim_rag.specs.declared.entry.Mode.{Mode}
use Rattle.dim_rag.specs.declared.entry.Mode.TheVariants.{Yielding}
use Rattle.dim_rag.specs.History.{latest_wish, edge_of_wish, Wish}
use Rattle.dim_rag.specs.Fits.{IsYielding}
use Rattle.dim_rag.specs.Rows.{IsRow, IsMode, wished_in}

pub wished : (t : Tid) (r : Row) (h : List Entry) → IsRow t.0 r h → IsYielding t.0 h → wished_in t (length h) r.mode r.stack ≡ option_map (edge_of_wish t (length h)) (latest_wish t.0 h)
wished t r h k (l, place, is) =
    let e : r.mode ≡ Yielding l place = sym k.mode_is ∙ is in
    let more : IsMode t.0 (Yielding l place) r.stack r.births h = subst (λ (m : Mode). IsMode t.0 m r.stack r.births h) e k.more in
    ap (λ (m : Mode). wished_in t (length h) m r.stack) e
    ∙ sym (ap (λ (o : Option Wish). option_map (edge_of_wish t (length h)) o) more.1)
