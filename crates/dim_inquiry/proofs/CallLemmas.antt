-- What a call at a place does, by what the trait says of it.
use Rattle.std.proofs.Common.{◌≡◌, ℕ, true, false, cond, ltb, List, [], ◌∷◌, length, Option, Some, None, Ok, Err, refl, sym, ap, ◌∙◌, IfSome}
use Rattle.std.specs.Option.{option_map}
use Rattle.dim_base.specs.Files.{Named, with_file, fetched, Fetches, Stores}
use Rattle.dim_base.specs.declared.files.Fetch.{Fetch}
use Rattle.dim_base.specs.declared.files.Fetch.TheVariants as fetch
use Rattle.dim_base.specs.declared.files.Store.{Store}
use Rattle.dim_base.specs.declared.files.Store.TheVariants as store
use Rattle.dim_inquiry.specs.declared.stop.Place.{Place}
use Rattle.dim_inquiry.specs.declared.stop.Refusal.TheVariants.{Absent, Long}
use Rattle.dim_inquiry.specs.Course.{Stops, WhereTold, fetches, stores, file_at, fetch_stop, store_stop}

at_absent : (there : Option (List ℕ)) (place : Place) (limit : ℕ) → fetched there limit ≡ Err fetch.Absent → file_at there place limit ≡ Err (Absent place)
at_absent None place limit h = refl
at_absent (Some b) place limit h = elim (ltb limit (length b)) as (λ t. cond t (Err (fetch.Long limit)) (Ok b) ≡ Err fetch.Absent → cond t (Err (Long place)) (Ok b) ≡ Err (Absent place)) [
  | true ↦ λ e. cc
  | false ↦ λ e. cc
] h

at_long : (there : Option (List ℕ)) (place : Place) (limit n : ℕ) → fetched there limit ≡ Err (fetch.Long n) → file_at there place limit ≡ Err (Long place)
at_long None place limit n h = cc
at_long (Some b) place limit n h = elim (ltb limit (length b)) as (λ t. cond t (Err (fetch.Long limit)) (Ok b) ≡ Err (fetch.Long n) → cond t (Err (Long place)) (Ok b) ≡ Err (Long place)) [
  | true ↦ λ e. refl
  | false ↦ λ e. cc
] h

same_files : (files before : Named) → ◌≡◌ {A = Option Named} (Some files) (Some before) → files ≡ before
same_files files before e = cc

pub fetch-err : (told told' : Option Named) (place : Place) (name : List ℕ) (limit : ℕ) (e : Fetch)
    → IfSome told (λ files. Fetches (fetched (files name) limit) (Err e)) → told' ≡ told
    → WhereTold told (λ before. Stops (fetches before place name limit) before (fetch_stop place e) told')
fetch-err None told' place name limit e h kept = λ before is. cc
fetch-err (Some files) told' place name limit fetch.Failed h kept =
    λ before is. record { made = []; failed = record { place = place; name = name; stored = None }; left = []; order = refl; here = refl; files = kept ∙ is }
fetch-err (Some files) told' place name limit (fetch.Long n) h kept =
    λ before is. (ap (λ m. file_at (m name) place limit) (sym (same_files files before is)) ∙ at_long (files name) place limit n h, kept ∙ is)
fetch-err (Some files) told' place name limit fetch.Absent h kept =
    λ before is. (ap (λ m. file_at (m name) place limit) (sym (same_files files before is)) ∙ at_absent (files name) place limit h, kept ∙ is)
fetch-err (Some files) told' place name limit fetch.OutOfMemory h kept =
    λ before is. record { made = []; left = record { place = place; name = name; stored = None } ∷ []; order = refl; files = kept ∙ is }

pub store-err : (told told' : Option Named) (place : Place) (name bytes : List ℕ) (e : Store)
    → Stores name bytes told told' (Err e)
    → WhereTold told (λ before. Stops (stores place name bytes) before (store_stop place e) told')
store-err told told' place name bytes store.Failed h =
    λ before is.
    record {
      made = [];
      failed = record { place = place; name = name; stored = Some bytes };
      left = [];
      order = refl;
      here = refl;
      files = (h.0, h.1 ∙ ap (option_map (λ files. with_file files name h.0)) is);
    }
store-err told told' place name bytes store.OutOfMemory h =
    λ before is. record { made = []; left = record { place = place; name = name; stored = Some bytes } ∷ []; order = refl; files = h ∙ is }
