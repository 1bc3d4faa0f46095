-- Edges without their stacks.
use Rattle.dim_rag.specs.declared.entry.Edge.{Edge}
use Rattle.dim_rag.specs.declared.graph.link.Link.{Link}

-- the owner and the birth of an edge
abbrev pub link_of : Edge → Link
link_of e = record { t = e.t; birth = e.birth }
