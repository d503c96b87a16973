-- Attributes, read one by one.
use Rattle.std.proofs.Common.{◌≡◌, ◌∙◌, ℕ, suc, ◌+◌, ◌<◌, ◌≤◌, List, [], ◌∷◌, ◌++◌, length, map, take, drop, slice_index_or, Bool, true, false, not, Some, None, Result, Ok, Err, refl, ap, sym, arith, append_assoc, Bor, bytes_eq}
use Rattle.std.specs.Prelude.{if◌then◌else◌, ◌||◌}
use Rattle.std.specs.List.{list_any, AllByRecursion}
use Rattle.std.proofs.lemmas.Bool.{cond-true, cond-false}
use Rattle.dtd_scanner.specs.Walk.{◌>>=◌}
use Rattle.dtd_scanner.proofs.Walking.{bind_ok, bind_assoc}
use Rattle.jats_fault.specs.declared.fault.Fault.{Fault}
use Rattle.document_trees.specs.Trees.{Attribute, has_attribute}
use Rattle.decl_set.specs.Declarations.{Entity}
use Rattle.decl_set.specs.Values.{value_of}
use Rattle.pe_expansion.specs.Expansion.{Written}
use Rattle.article_tree.specs.Tokens.{Raw}
use Rattle.article_tree.specs.Words.{Names, repeated}
use Rattle.article_tree.specs.Stops.{Standing, stopped}
use Rattle.article_tree.specs.Reading.{values, with_first}
use Rattle.article_tree.specs.Outcomes.{IsRaw, Fails}
use Rattle.article_tree.specs.Taken.{raw_of}
use Rattle.article_tree.specs.declared.token.TagAtt.{TagAtt}
use Rattle.article_tree.specs.declared.stops.ArticleFault.{ArticleFault}
use Rattle.article_tree.specs.declared.stops.ArticleFault.TheVariants.{Refused, NoMemory}
use Rattle.std.proofs.Math.Seq.{drop-cons}
use Rattle.std.proofs.lemmas.List.{length-map, drop_all}
use Rattle.std.proofs.Math.ListN.{get_or-map}
use Rattle.std.proofs.lemmas.Grind.{take_at_read}

-- these attributes in front of those that are read
abbrev pub behind_atts : List Attribute → List Attribute × ℕ → Result (List Attribute × ℕ) Fault
behind_atts done r = Ok (done ++ r.0, r.1)

module _ (entities : List Entity) (names : Names) (c : Standing) (at : ℕ) where
  -- these attributes were read, with this count of included characters, and these are left
  pub record ValuedTo (raws : List Raw) (before : ℕ) (done : List Attribute) (spent : ℕ) (rest : List Raw) : Type 0 where
    pub are_raw : AllByRecursion IsRaw rest
    pub same : (values entities names c at spent rest >>= behind_atts done) ≡ values entities names c at before raws

  pub valued_none : (raws : List Raw) (before : ℕ) → AllByRecursion IsRaw raws → ValuedTo raws before [] before raws
  valued_none raws before are = record { are_raw = are; same = bind_ok (values entities names c at before raws) }

  pub valued_one : (raws : List Raw) (before : ℕ) (done : List Attribute) (spent : ℕ) (raw : Raw) (rest : List Raw) (name text : List ℕ) (after : ℕ) → ValuedTo raws before done spent (raw ∷ rest) → name ≡ raw.0
      → stopped c at raw.0 (value_of entities names spent raw.1) ≡ Ok (record { text = text; spent = after }) → ValuedTo raws before (done ++ (name, text) ∷ []) after rest
  valued_one raws before done spent raw rest name text after h named is =
      let w : Written = record { text = text; spent = after } in
      let others = values entities names c at after rest in
      let first : values entities names c at spent (raw ∷ rest) ≡ (others >>= λ r. Ok (with_first raw.0 w r)) =
      ap (λ (x : Result Written Fault). x >>= λ w. values entities names c at w.spent rest >>= λ r. Ok (with_first raw.0 w r)) is in
      record {
        are_raw = h.are_raw.1;
        same = rw named (regroup others) ∙ sym (bind_assoc others (λ r. Ok (with_first raw.0 w r)) (behind_atts done)) ∙ ap (λ (x : Result (List Attribute × ℕ) Fault). x >>= behind_atts done) (sym first) ∙ h.same;
      }
    where
      regroup : (x : Result (List Attribute × ℕ) Fault) → (x >>= behind_atts (done ++ (raw.0, text) ∷ [])) ≡ (x >>= λ r. behind_atts done (with_first raw.0 (record { text = text; spent = after }) r))
      regroup (Ok r) = ap (λ (t : List Attribute). Ok (t, r.1)) (append_assoc done ((raw.0, text) ∷ []) r.0)
      regroup (Err e) = refl

  pub valued_fails : (raws : List Raw) (before : ℕ) (done : List Attribute) (spent : ℕ) (raw : Raw) (rest : List Raw) (e : Fault) → ValuedTo raws before done spent (raw ∷ rest)
      → stopped c at raw.0 (value_of entities names spent raw.1) ≡ Err e → values entities names c at before raws ≡ Err e
  valued_fails raws before done spent raw rest e h is =
      sym h.same ∙ ap (λ (x : Result Written Fault). (x >>= λ w. values entities names c at w.spent rest >>= λ r. Ok (with_first raw.0 w r)) >>= behind_atts done) is

  pub valued_on : (raws : List Raw) (before : ℕ) (done now : List Attribute) (spent : ℕ) (raw : Raw) (left rest : List Raw) (name text : List ℕ) (after : ℕ) → left ≡ raw ∷ rest → ValuedTo raws before done spent left → name ≡ raw.0
      → stopped c at raw.0 (value_of entities names spent raw.1) ≡ Ok (record { text = text; spent = after }) → now ≡ done ++ (name, text) ∷ [] → ValuedTo raws before now after rest
  valued_on raws before done now spent raw left rest name text after e h named is behind = rw behind (valued_one raws before done spent raw rest name text after (rw e at h) named is)

  pub valued_stops : (raws : List Raw) (before : ℕ) (done : List Attribute) (spent : ℕ) (raw : Raw) (left rest : List Raw) (e : Fault) → left ≡ raw ∷ rest → ValuedTo raws before done spent left
      → stopped c at raw.0 (value_of entities names spent raw.1) ≡ Err e → values entities names c at before raws ≡ Err e
  valued_stops raws before done spent raw left rest e is h stops = valued_fails raws before done spent raw rest e (rw is at h) stops

  pub valued_all : (raws : List Raw) (before : ℕ) (done : List Attribute) (spent : ℕ) → ValuedTo raws before done spent [] → values entities names c at before raws ≡ Ok (done, spent)
  valued_all raws before done spent h = sym h.same ∙ ap (λ (t : List Attribute). Ok (t, spent)) (append_nil done)
    where
      append_nil : (xs : List Attribute) → xs ++ [] ≡ xs
      append_nil [] = refl
      append_nil (x ∷ xs) = ap (λ (t : List Attribute). x ∷ t) (append_nil xs)

-- ---- names that stand twice

-- these names were seen, none of them twice, and these attributes are left
abbrev pub SeenTo : List Attribute → List (Bor (List ℕ)) → List Attribute → Type 0
SeenTo atts keys rest =
    (earlier : List Attribute) × ((name : List ℕ) → list_any (λ k. bytes_eq name k.now) keys ≡ has_attribute earlier name) × (repeated earlier rest ≡ repeated [] atts)

pub seen_none : (atts : List Attribute) (keys : List (Bor (List ℕ))) → keys ≡ [] → SeenTo atts keys atts
seen_none atts keys is = ([], (λ name. ap (list_any (λ k. bytes_eq name k.now)) is), refl)

or_swap : (a b c : Bool) → (a || (b || c)) ≡ (b || (a || c))
or_swap true true c = refl
or_swap true false c = refl
or_swap false true c = refl
or_swap false false c = refl

any_last : (name : List ℕ) (keys : List (Bor (List ℕ))) (key : Bor (List ℕ)) → list_any (λ k. bytes_eq name k.now) (keys ++ key ∷ []) ≡ (bytes_eq name key.now || list_any (λ k. bytes_eq name k.now) keys)
any_last name [] key = refl
any_last name (k ∷ keys) key = ap (λ b. bytes_eq name k.now || b) (any_last name keys key) ∙ or_swap (bytes_eq name k.now) (bytes_eq name key.now) (list_any (λ k. bytes_eq name k.now) keys)

pub not_true : (a b : Bool) → b ≡ not a → b ≡ false → a ≡ true
not_true true b e f = refl
not_true false b e f = sym f ∙ e

pub not_false : (a b : Bool) → b ≡ not a → b ≡ true → a ≡ false
not_false true b e f = sym f ∙ e
not_false false b e f = refl

module _ (atts : List Attribute) (keys : List (Bor (List ℕ))) (a : Attribute) (rest : List Attribute) (name : List ℕ) (new : Bool) (is : name ≡ a.0) (h : SeenTo atts keys (a ∷ rest))
    (added : new ≡ not (list_any (λ k. bytes_eq name k.now) keys)) where
  pub seen_twice : new ≡ false → Some name ≡ repeated [] atts
  seen_twice old =
      let there : has_attribute h.0 a.0 ≡ true = sym (h.1 a.0) ∙ ap (λ (n : List ℕ). list_any (λ k. bytes_eq n k.now) keys) (sym is) ∙ not_true _ new added old in
      ap Some is ∙ sym (cond-true (has_attribute h.0 a.0) (Some a.0) (repeated (a ∷ h.0) rest) there) ∙ h.2

  pub seen_once : (key : Bor (List ℕ)) (now : List (Bor (List ℕ))) → key.now ≡ name → now ≡ (if list_any (λ k. bytes_eq name k.now) keys then keys else keys ++ key ∷ []) → new ≡ true → SeenTo atts now rest
  seen_once key now same behind fresh =
      let none : list_any (λ k. bytes_eq name k.now) keys ≡ false = not_false _ new added fresh in
      let there : has_attribute h.0 a.0 ≡ false = sym (h.1 a.0) ∙ ap (λ (n : List ℕ). list_any (λ k. bytes_eq n k.now) keys) (sym is) ∙ none in
      let last : now ≡ keys ++ key ∷ [] = behind ∙ ap (λ b. if b then keys else keys ++ key ∷ []) none in (
        a ∷ h.0,
        (λ n. ap (list_any (λ k. bytes_eq n k.now)) last ∙ any_last n keys key ∙ ap (λ b. bytes_eq n key.now || b) (h.1 n) ∙ ap (λ (t : List ℕ). bytes_eq n t || has_attribute h.0 n) (same ∙ is)),
        sym (cond-false (has_attribute h.0 a.0) (Some a.0) (repeated (a ∷ h.0) rest) there) ∙ h.2,
      )

pub seen_all : (atts : List Attribute) (keys : List (Bor (List ℕ))) (rest : List Attribute) → SeenTo atts keys rest → rest ≡ [] → None ≡ repeated [] atts
seen_all atts keys rest h none = ap (repeated h.0) (sym none) ∙ h.2

-- the attributes before this one differ in name, and what is left decides
abbrev pub FewTo : List Attribute → ℕ → Type 0
FewTo atts k = (earlier : List Attribute) × ((name : List ℕ) → has_attribute (take k atts) name ≡ has_attribute earlier name) × (repeated earlier (drop k atts) ≡ repeated [] atts)

pub few_none : (atts : List Attribute) → FewTo atts 0
few_none atts = ([], (λ name. refl), refl)

module _ (atts : List Attribute) (k : ℕ) (d : Attribute) (within : k < length atts) (h : FewTo atts k) where
  few_next : repeated h.0 (slice_index_or atts k d ∷ drop (suc k) atts) ≡ repeated [] atts
  few_next = ap (repeated h.0) (sym (drop-cons atts k d within)) ∙ h.2

  pub few_twice : has_attribute (take k atts) (slice_index_or atts k d).0 ≡ true → Some (slice_index_or atts k d).0 ≡ repeated [] atts
  few_twice is =
      let a = slice_index_or atts k d in
      sym (cond-true (has_attribute h.0 a.0) (Some a.0) (repeated (a ∷ h.0) (drop (suc k) atts)) (sym (h.1 a.0) ∙ is)) ∙ few_next

  pub few_once : has_attribute (take k atts) (slice_index_or atts k d).0 ≡ false → FewTo atts (k + 1)
  few_once is =
      let a = slice_index_or atts k d in
      let next : suc k ≡ k + 1 = omega arith in (
        a ∷ h.0,
        (λ n. ap (λ (t : List Attribute). has_attribute t n) (take_at_read atts k d within).1 ∙ has_last n (take k atts) a ∙ ap (λ b. bytes_eq n a.0 || b) (h.1 n)),
        ap (λ (n : ℕ). repeated (a ∷ h.0) (drop n atts)) (sym next) ∙ sym (cond-false (has_attribute h.0 a.0) (Some a.0) (repeated (a ∷ h.0) (drop (suc k) atts)) (sym (h.1 a.0) ∙ is)) ∙ few_next,
      )
    where
      has_last : (name : List ℕ) (xs : List Attribute) (a : Attribute) → has_attribute (xs ++ a ∷ []) name ≡ (bytes_eq name a.0 || has_attribute xs name)
      has_last name [] a = refl
      has_last name (x ∷ xs) a = ap (λ b. bytes_eq name x.0 || b) (has_last name xs a) ∙ or_swap (bytes_eq name x.0) (bytes_eq name a.0) (has_attribute xs name)

pub few_all : (atts : List Attribute) (k : ℕ) → length atts ≤ k → FewTo atts k → None ≡ repeated [] atts
few_all atts k over h = ap (repeated h.0) (sym (drop_all k atts over)) ∙ h.2

-- ---- attributes of a tag as the program holds them

pub att_at : (atts : List TagAtt) (k : ℕ) (d : TagAtt) → k < length atts → drop k (map raw_of atts) ≡ raw_of (slice_index_or atts k d) ∷ drop (k + 1) (map raw_of atts)
att_at atts k d within =
    let shown : length (map raw_of atts) ≡ length atts = length-map atts raw_of in
    let next : suc k ≡ k + 1 = omega arith in
    drop-cons (map raw_of atts) k (raw_of d) (omega (arith, within, shown)) ∙ ap (λ (x : Raw). x ∷ drop (suc k) (map raw_of atts)) (get_or-map raw_of atts k d) ∙ ap (λ (n : ℕ). raw_of (slice_index_or atts k d) ∷ drop n (map raw_of atts)) next

-- a fault stays
pub fails_on : {Y W : Type 0} (said : Result Y Fault) (now : Result W Fault) (fault : ArticleFault) → ((f : Fault) → said ≡ Err f → now ≡ Err f) → Fails fault said → Fails fault now
fails_on said now (Refused f) keeps h = keeps f h
fails_on said now NoMemory keeps h = tt

pub first_raw : (raws rest : List Raw) (raw : Raw) → raws ≡ raw ∷ rest → AllByRecursion IsRaw raws → IsRaw raw
first_raw raws rest raw is all = (rw is at all).0
