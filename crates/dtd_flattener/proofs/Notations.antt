-- The notations of a set are read back.
use Rattle.std.proofs.Common.{◌≡◌, ◌∙◌, ℕ, List, [], ◌∷◌, ◌++◌, map, true, Some, None, is_some, Ok, refl, ap, sym, subst, append_assoc, append-nil, bytes_eq, if◌then◌else◌}
use Rattle.std.specs.Prelude.{codes, option_and_then, option_map, Result, Err}
use Rattle.std.specs.List.{list_all}
use Rattle.std.specs.Map.{lookup}
use Rattle.std.proofs.lemmas.Bool.{and_parts}
use Rattle.jats_chars.specs.Classes.{is_space}
use Rattle.jats_chars.specs.Names.{is_name}
use Rattle.text_fronts.proofs.Fronts.{stops}
use Rattle.entity_catalog.specs.declared.ids.Ids.{Ids}
use Rattle.entity_catalog.specs.declared.ids.Ids.TheVariants.{System, Public, PublicOnly}
use Rattle.dtd_scanner.specs.declared.item.ItemKind.TheVariants.{NotationDecl}
use Rattle.decl_set.specs.Asked.{are_apart, are_ids, is_notation_kept}
use Rattle.decl_set.specs.Declarations.{Declarations, Notation}
use Rattle.decl_set.specs.Declaring.{with_notation}
use Rattle.decl_set.specs.declared.faults.DeclFault.{DeclFault}
use Rattle.decl_set.specs.declared.faults.DeclFault.TheVariants as fault
use Rattle.declaration_bodies.specs.Notations.{with_ids, notation_ids, notation_of}
use Rattle.module_reader.specs.Reading.{declares, notation_read, notation_declared}
use Rattle.module_reader.specs.Sources.{Source}
use Rattle.module_reader.specs.declared.standing.Standing.{Standing}
use Rattle.module_reader.specs.declared.state.State.{State}
use Rattle.dtd_flattener.specs.Flat.{notation_body, ids_text}
use Rattle.dtd_flattener.proofs.Apart.{new_name}
use Rattle.dtd_flattener.proofs.Flatness.{IsFlatBody, flat_plain, flat_joined, flat_body}
use Rattle.dtd_flattener.proofs.Fronts.{name_flat, space_read, space_stops, spaced_name_read}
use Rattle.dtd_flattener.proofs.Identifiers.{notation_ids_read, ids_flat}
use Rattle.dtd_flattener.proofs.Leading.{Leads, with_set}

-- identifiers begin with a letter
ids_stop : (ids : Ids) → stops is_space (ids_text ids) ≡ true
unfolding is_space
ids_stop (System s) = refl
ids_stop (Public p s) = refl
ids_stop (PublicOnly p) = refl

notation_read_back : (n : Notation) → is_notation_kept n ≡ true → notation_of (notation_body n) ≡ Some n
unfolding notation_of
notation_read_back n kept =
    let parts = and_parts (is_name n.0) (are_ids n.1) kept in
    let rest = codes " " ++ ids_text n.1 in
    ap (option_and_then with_ids) (spaced_name_read n.0 rest parts.0 (space_stops (ids_text n.1)))
    ∙ ap (λ o. option_map (λ ids. (n.0, ids)) (option_and_then notation_ids o)) (space_read (ids_text n.1) (ids_stop n.1))
    ∙ ap (option_map (λ ids. (n.0, ids))) (notation_ids_read n.1 parts.1)

notation_flat : (n : Notation) → is_notation_kept n ≡ true → IsFlatBody (notation_body n)
notation_flat n kept =
    let parts = and_parts (is_name n.0) (are_ids n.1) kept in
    flat_body (n.0 ++ (codes " " ++ ids_text n.1))
    (flat_joined n.0 (codes " " ++ ids_text n.1) (name_flat n.0 parts.0) (flat_joined (codes " ") (ids_text n.1) (flat_plain (codes " ") refl) (ids_flat n.1 parts.1)))

added : (set : Declarations) (n : Notation) → lookup (bytes_eq n.0) set.notations ≡ None → with_notation set n.0 n.1 ≡ Ok (record set { notations = set.notations ++ n ∷ [] })
unfolding with_notation
added set n new =
    ap {B = Result Declarations DeclFault} (λ o. if is_some o then Err (fault.DuplicateNotation n.0) else Ok (record set { notations = set.notations ++ n ∷ [] })) new

notation_leads : (c : Standing) (at : ℕ) (s : State) (n : Notation) → is_notation_kept n ≡ true → lookup (bytes_eq n.0) s.set.notations ≡ None
    → notation_declared c at s (notation_body n) ≡ Ok (with_set s (record s.set { notations = s.set.notations ++ n ∷ [] }))
unfolding notation_declared
notation_leads c at s n kept new = ap (notation_read c at s) (notation_read_back n kept) ∙ ap (declares c at s) (added s.set n new)

module _ (source : Source) (base : State) (set : Declarations) where
  abbrev having : List Notation → State
  having notations = with_set base (record set { notations = notations })

  lead_from : (before after : List Notation) → are_apart (before ++ after) ≡ true → list_all is_notation_kept after ≡ true
      → Leads source (having before) (map (λ n. (NotationDecl, notation_body n)) after) (having (before ++ after))
  lead_from before [] apart kept = ap having (sym (append-nil before))
  lead_from before (n ∷ after) apart kept =
      let parts = and_parts (is_notation_kept n) (list_all is_notation_kept after) kept in
      let on : before ++ (n ∷ after) ≡ (before ++ n ∷ []) ++ after = sym (append_assoc before (n ∷ []) after) in (
        having (before ++ n ∷ []),
        record { kind = refl; flat = notation_flat n parts.0; leads = λ c at. notation_leads c at (having before) n parts.0 (new_name before n after apart) },
        subst (λ (all : List Notation). Leads source (having (before ++ n ∷ [])) (map (λ m. (NotationDecl, notation_body m)) after) (having all)) (sym on)
            (lead_from (before ++ n ∷ []) after (ap are_apart (sym on) ∙ apart) parts.1),
      )

  -- The lines of notations lead to these notations.
  pub notations_lead : (notations : List Notation) → are_apart notations ≡ true → list_all is_notation_kept notations ≡ true
      → Leads source (having []) (map (λ n. (NotationDecl, notation_body n)) notations) (having notations)
  notations_lead notations apart kept = lead_from [] notations apart kept
