use Rattle.std.proofs.Common.{◌≡◌, ◌++◌, ◌∷◌, [], ◌∙◌, List, ap, arith, length, sym, subst, take}
use Rattle.std.specs.Prelude.{None}
use Rattle.dim_rag.specs.declared.entry.Entry.{Entry}
use Rattle.dim_rag.specs.History.{past}
use Rattle.dim_rag.specs.Shown.{shown}
use Rattle.dim_signature.specs.Sig.{Sig}
use Rattle.dim_gate.specs.Gate.{Gate, constants, gate_at}
use Rattle.dim_gate.specs.Known.{learnt_sigs}
use Rattle.dim_gate.specs.Legal.{command_of, giver_of}
use Rattle.dim_gate.specs.Invariant.{HasEdges, IsGate}
use Rattle.dim_gate.proofs.Edged.{no_fewer}
use Rattle.dim_gate.proofs.Fitting.{fits_after}
use Rattle.dim_gate.proofs.Growing.{longer_gate, may_learn, may_shelve, loaded_stay, past_more}
use Rattle.dim_gate.proofs.knowledge.Knowledge.take_in.Goals as goal

pub note_learnt-requires-clause-may : goal.note_learnt-requires-clause-may
note_learnt-requires-clause-may c =
    let k = c.args.self.now in
    let e = shown c.args.e.now in
    let g : Gate = gate_at c.args.graph.now k None in
    may_learn g k.loaded k.catalogue c.requires.knows.gate (giver_of g.threads e) e (command_of e) c.requires.legal.entry_is

pub note_learnt-requires-clause-spare : goal.note_learnt-requires-clause-spare
note_learnt-requires-clause-spare c =
    let k = c.args.self.now in
    let e = shown c.args.e.now in
    let g : Gate = gate_at c.args.graph.now k None in
    may_shelve g k.loaded k.catalogue c.requires.knows.gate (giver_of g.threads e) e k.shelf.spare c.requires.knows.shelf_room (command_of e) c.requires.legal.entry_is

pub tell_index-requires-clause-fits : goal.tell_index-requires-clause-fits
tell_index-requires-clause-fits c =
    let g : Gate = gate_at c.args.graph.now c.args.self.now None in
    fits_after (constants g) (past g.entries) (shown c.args.e.now) c.len-few.ensures.in_range c.len-few.ensures.fits c.requires.legal

pub tell_index-requires-clause-edges : goal.tell_index-requires-clause-edges
tell_index-requires-clause-edges c = subst (λ n. HasEdges n c.args.self.now.index.edges (past c.args.graph.now.entries)) (sym c.len-known.ensures.len) c.requires.knows.edges

pub tell_index-requires-clause-more : goal.tell_index-requires-clause-more
tell_index-requires-clause-more c =
    let k = c.args.self.now in
    let more = no_fewer k.catalogue.sigs (learnt_sigs k.depth (shown c.args.e.now) (past c.args.graph.now.entries)) c.note_learnt.new.catalogue.sigs c.note_learnt.ensures.sigs in
    omega (arith, more, c.len-known.ensures.len)

pub returns-clause-knows : goal.returns-clause-knows
returns-clause-knows c = λ spare.
    let r = c.args.graph.now in
    let k = c.args.self.now in
    let e = shown c.args.e.now in
    let after = c.note_learnt.new.catalogue in
    let stay : take k.loaded after.sigs ≡ take k.loaded k.catalogue.sigs = loaded_stay k.loaded k.catalogue.sigs after.sigs (learnt_sigs k.depth e (past r.entries)) c.note_learnt.ensures.sigs c.requires.knows.gate.begins in
    record {
      gate = subst (λ (s : List Sig). IsGate record { threads = r.threads; locks = r.locks; loaded = s; depth = k.depth; cap = k.cap; entries = r.entries ++ e ∷ []; spare = spare; feed = None } k.loaded after) (sym stay)
          (longer_gate (gate_at r k None) k.loaded k.catalogue after e spare c.requires.knows.gate c.requires.legal c.note_learnt.ensures.sigs c.note_learnt.ensures.room);
      edges = subst (λ (h : List Entry). HasEdges (length after.sigs) c.tell_index.new.index.edges h) (sym (past_more r.entries e)) c.tell_index.ensures.edges;
      room = c.tell_index.ensures.room ∙ c.requires.knows.room;
      shelved = c.note_learnt.ensures.shelf;
      shelf_room = c.note_learnt.ensures.shelf_room ∙ c.requires.knows.shelf_room;
    }

pub returns-clause-same : goal.returns-clause-same
returns-clause-same c = λ r feed.
    let k = c.args.self.now in
    ap (λ (s : List Sig). record { threads = r.threads; locks = r.locks; loaded = s; depth = k.depth; cap = k.cap; entries = r.entries; spare = r.spare; feed = feed })
    (loaded_stay k.loaded k.catalogue.sigs c.note_learnt.new.catalogue.sigs (learnt_sigs k.depth (shown c.args.e.now) (past c.args.graph.now.entries)) c.note_learnt.ensures.sigs c.requires.knows.gate.begins)
