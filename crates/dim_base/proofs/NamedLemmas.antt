-- A map in memory after an insert stands for the files with that one more.
use Rattle.std.proofs.Common.{◌≡◌, ℕ, Bool, true, false, cond, List, Option, Some, Vec, refl, ap, ◌∙◌}
use Rattle.std.specs.Option.{option_map}
use Rattle.std.specs.Str.{bytes_eq}
use Rattle.std.specs.Ordering.{nat_cmp}
use Rattle.std.specs.Cmp.Lexicographic.{slice_cmp}
use Rattle.std.specs.String.{string_cmp, string_bytes}
use Rattle.std.specs.BTreeMap.{BTreeMap, UpdatesBy, get_by_text}
use Rattle.std.specs.declared.alloc.Global.{Global}
use Rattle.std.specs.declared.string.String.{String}
use Rattle.std.proofs.lemmas.Map.Text.{btree_map_updates_text}
use Rattle.dim_base.specs.Files.{with_file}
use Rattle.dim_base.specs.SureFiles.{named_by}

option_map-cond : {A B : Type 0} (f : A → B) (b : Bool) (x y : Option A) → option_map f (cond b x y) ≡ cond b (option_map f x) (option_map f y)
option_map-cond f true x y = refl
option_map-cond f false x y = refl

pub named_by-insert : (old new : BTreeMap (String Global) (Vec ℕ Global)) (name : List ℕ) (v : Vec ℕ Global)
    → UpdatesBy string_cmp (λ k. slice_cmp nat_cmp name (string_bytes k)) old new (Some v)
    → named_by new ≡ with_file (named_by old) name (Some v.items)
named_by-insert old new name v h =
    let here : (q : List ℕ) → named_by new q ≡ with_file (named_by old) name (Some v.items) q =
    λ q. ap (option_map (λ (x : Vec ℕ Global). x.items)) (btree_map_updates_text name old new (Some v) h q)
    ∙ option_map-cond (λ (x : Vec ℕ Global). x.items) (bytes_eq name q) (Some v) (get_by_text old q) in
    λ i q. here q i
