-- What is known of an edge by its link.
use Rattle.std.proofs.Common.{◌≡◌, ℕ, ◌<◌, refl, subst}
use Rattle.std.specs.Prelude.{Option, Some, None, IfSome, option_map}
use Rattle.std.proofs.lemmas.Option.{same_Some}
use Rattle.dim_rag.specs.declared.entry.Edge.{Edge}
use Rattle.dim_rag.specs.declared.graph.link.Link.{Link}
use Rattle.dim_rag.specs.Links.{link_of}

-- what holds of the link of each edge that may be there holds of the link that is there
pub by_edge : (P : Link → Type 0) (o : Option Edge) (x : Link) → option_map link_of o ≡ Some x → ((e : Edge) → o ≡ Some e → P (link_of e)) → P x
by_edge P None x q f = absurd (cc)
by_edge P (Some e) x q f = subst P (same_Some (link_of e) x q) (f e refl)

-- without a link there is no edge
pub no_edge : (o : Option Edge) → option_map link_of o ≡ None → o ≡ None
no_edge None q = refl
no_edge (Some e) q = absurd (cc)

-- the owner of a link is that of its edge
pub owner_below : (n : ℕ) (o : Option Edge) → IfSome o (λ e. e.t.0 < n) → IfSome (option_map link_of o) (λ x. x.t.0 < n)
owner_below n None k = k
owner_below n (Some e) k = k
