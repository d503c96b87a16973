-- The files of a store in memory, by the entries of its map.
use Rattle.std.proofs.Common.{◌≡◌, ℕ, List, [], ◌∷◌, map, true, false, cond, refl, ap, Vec, Global, Some}
use Rattle.std.specs.Prelude.{option_map, bytes_eq}
use Rattle.std.specs.Map.{lookup}
use Rattle.indexmap.specs.IndexMap.{insert_entry}
use Rattle.jats_io.specs.Loads.{held, put_in}

abbrev pub Entries : Type 0
Entries = List (List ℕ × Vec ℕ Global)

abbrev pub files_of : Entries → List (List ℕ × List ℕ)
files_of es = map (λ e. (e.0, e.1.items)) es

pub held-files_of : (es : Entries) (name : List ℕ) → held (files_of es) name ≡ option_map (λ v. v.items) (lookup (bytes_eq name) es)
held-files_of [] name = refl
held-files_of (e ∷ es) name =
    elim (bytes_eq name e.0) as (λ b. cond b (Some e.1.items) (held (files_of es) name) ≡ option_map (λ (v : Vec ℕ Global). v.items) (cond b (Some e.1) (lookup (bytes_eq name) es)))
    [ true ↦ refl | false ↦ held-files_of es name ]

pub files_of-insert : (es : Entries) (name : List ℕ) (v : Vec ℕ Global) → files_of (insert_entry bytes_eq es name v) ≡ put_in (files_of es) name v.items
files_of-insert [] name v = refl
files_of-insert (e ∷ es) name v =
    elim (bytes_eq name e.0) as (λ b. files_of (cond b ((e.0, v) ∷ es) (e ∷ insert_entry bytes_eq es name v)) ≡ cond b ((e.0, v.items) ∷ files_of es) ((e.0, e.1.items) ∷ put_in (files_of es) name v.items))
    [ true ↦ refl | false ↦ ap (λ fs. (e.0, e.1.items) ∷ fs) (files_of-insert es name v) ]
