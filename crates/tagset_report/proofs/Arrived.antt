-- The elements whose start is reached are the useful ones.
use Rattle.std.proofs.Common.{◌≡◌, ◌<◌, ◌-◌, ◌/◌, ◌%◌, ◌==◌, ◌||◌, ◌⊎◌, ℕ, List, [], ◌∷◌, ◌++◌, Bool, true, false, cond, Some, bytes_eq, slice_get, inl, inr, refl, sym, ap, ◌∙◌, subst, arith, true≢false}
use Rattle.std.specs.Prelude.{option_and_then}
use Rattle.std.specs.Bool.{Decides}
use Rattle.std.specs.List.{AllByRecursion}
use Rattle.std.specs.Option.{option_map_or}
use Rattle.std.proofs.lemmas.Bool.{or_left, or_right}
use Rattle.attribute_types.proofs.TextTests.{on_test, bytes_same, bytes_own}
use Rattle.content_models.specs.declared.content.Content.{Content}
use Rattle.content_models.specs.Model.{Chars, among}
use Rattle.position_automata.specs.Automata.{FollowsOn, Way}
use Rattle.position_automata.specs.Runs.{Runs}
use Rattle.decl_set.specs.Asked.{IsKept}
use Rattle.decl_set.specs.Declarations.{Declarations, Element, content_in}
use Rattle.decl_set.specs.Validity.{HasDocument, IsUseful}
use Rattle.model_inclusion.specs.Reaching.{Member, Reach, Here, There, Reaches, is_seen}
use Rattle.tree_costs.specs.declared.cost.Cost.TheVariants.{Inf}
use Rattle.tree_costs.specs.declared.least.Least.{Least}
use Rattle.tree_costs.specs.declared.least.LeastRow.{LeastRow}
use Rattle.tree_costs.specs.Leasts.{IsExact, place_of, m_of, p_of}
use Rattle.tree_costs.proofs.Places.{has_place, stands_at, is_at}
use Rattle.tagset_report.specs.Chains.{IsLiveChild, Chain}
use Rattle.tagset_report.specs.Finite.{is_finite, live_of}
use Rattle.tagset_report.specs.Live.{AreLive}
use Rattle.tagset_report.specs.Useful.{size_at, sum_at, number_at, steps_numbers, children_at, root_numbers, count_numbers}
use Rattle.tagset_report.proofs.Broken.{declared}
use Rattle.tagset_report.proofs.Judging.{each_to, each_from}
use Rattle.tagset_report.proofs.Lively.{are_live}
use Rattle.tagset_report.proofs.Numbers.{documents_by_costs, ends_told}
use Rattle.tagset_report.proofs.Reaching.{useful_by_chains}
use Rattle.tagset_report.proofs.Stepped.{element_of, state_of, step_into, step_leads, next_small, Parsed, parsed, rooted, child_in, step, step_at}

-- ---- ways and lists, one more

way_more : (a : Content) (i j k : ℕ) (names : List Chars) (name : Chars) → Way a i names j → FollowsOn a j name k → Way a i (names ++ name ∷ []) k
way_more a i j k [] name w f = (k, subst (λ (z : ℕ). FollowsOn a z name k) (sym w) f, refl)
way_more a i j k (x ∷ names) name w f = (w.0, w.1, way_more a w.0 j k names name w.2 f)

way_runs : (a : Content) (i j : ℕ) (names rest : List Chars) → Way a i names j → Runs a j rest → Runs a i (names ++ rest)
way_runs a i j [] rest w r = subst (λ (z : ℕ). Runs a z rest) (sym w) r
way_runs a i j (x ∷ names) rest w r = (w.0, w.1, way_runs a w.0 j names rest w.2 r)

all_both : (P : Chars → Type 0) (xs ys : List Chars) → AllByRecursion P xs → AllByRecursion P ys → AllByRecursion P (xs ++ ys)
all_both P [] ys h g = g
all_both P (x ∷ xs) ys h g = (h.0, all_both P xs ys h.1 g)

among_later : (names : List Chars) (name : Chars) (rest : List Chars) → among (names ++ name ∷ rest) name ≡ true
among_later [] name rest = or_left (bytes_eq name name) (among rest name) (bytes_own name)
among_later (x ∷ names) name rest = or_right (bytes_eq name x) (among (names ++ name ∷ rest) name) (among_later names name rest)

chain_more : (set : Declarations) (e f child : Chars) (path : List Chars) → Chain set e path f → IsLiveChild set f child → Chain set e (path ++ child ∷ []) child
chain_more set e f child [] c l = (subst (λ (z : Chars). IsLiveChild set z child) (sym c) l, refl)
chain_more set e f child (x ∷ path) c l = (c.0, chain_more set x f child path c.1 l)

module _ (set : Declarations) (least : Least) (kept : IsKept set) (exact : IsExact set least) where
  -- ---- what costs say, by places

  live : List Chars
  live = live_of set.elements least.rows

  lives : AreLive set (live_of set.elements least.rows)
  lives = are_live set least kept exact (live_of set.elements least.rows) (live_of set.elements least.rows) refl (λ name. refl)

  size_is : (name : Chars) (c : ℕ) → place_of set name ≡ Some c → m_of set least name ≡ size_at least.rows c
  size_is name c q = ap (λ o. option_map_or (λ (row : LeastRow). row.m) (option_and_then (slice_get least.rows) o) Inf) q

  sum_is : (name : Chars) (c i : ℕ) → place_of set name ≡ Some c → p_of set least name i ≡ sum_at least.rows c i
  sum_is name c i q = ap (λ o. option_map_or (λ z. z) (option_and_then (λ (row : LeastRow). slice_get row.p i) (option_and_then (slice_get least.rows) o)) Inf) q

  has_size : (name : Chars) (c : ℕ) → place_of set name ≡ Some c → HasDocument set name → is_finite (size_at least.rows c) ≡ true
  has_size name c q d = sym (ap is_finite (size_is name c q)) ∙ (documents_by_costs set least name exact).1 d

  of_size : (name : Chars) (c : ℕ) → place_of set name ≡ Some c → is_finite (size_at least.rows c) ≡ true → HasDocument set name
  of_size name c q f = (documents_by_costs set least name exact).0 (ap is_finite (size_is name c q) ∙ f)

  -- names with documents lead from a state to acceptance
  abbrev LeadOn : Content → ℕ → Type 0
  LeadOn a i = (names : List Chars) × AllByRecursion (HasDocument set) names × Runs a i names

  has_sum : (name : Chars) (a : Content) (c i : ℕ) → content_in set name ≡ Some a → place_of set name ≡ Some c → LeadOn a i → is_finite (sum_at least.rows c i) ≡ true
  has_sum name a c i d q l =
      sym (ap is_finite (sum_is name c i q))
      ∙ (ends_told set least (live_of set.elements least.rows) exact lives name a i d).1 (l.0, each_from set (live_of set.elements least.rows) lives l.0 l.1, l.2)

  of_sum : (name : Chars) (a : Content) (c i : ℕ) → content_in set name ≡ Some a → place_of set name ≡ Some c → is_finite (sum_at least.rows c i) ≡ true → LeadOn a i
  of_sum name a c i d q f =
      let e = (ends_told set least (live_of set.elements least.rows) exact lives name a i d).0 (ap is_finite (sum_is name c i q) ∙ f) in
      (e.0, each_to set (live_of set.elements least.rows) lives e.0 e.1, e.2)

  module _ (root : Chars) where
    -- ---- what is reached is useful

    -- a chain leads to the element at a place, and names with documents to its state
    record Arrived (e i : ℕ) : Type 0 where
      element : Element
      at : slice_get set.elements e ≡ Some element
      path : List Chars
      chain : Chain set root path element.0
      names : List Chars
      documents : AllByRecursion (HasDocument set) names
      way : Way element.1 0 names i

    Standing : ℕ → Type 0
    Standing n = (n ≡ 0) ⊎ (HasDocument set root × Arrived ((n - 1) / 1025) ((n - 1) % 1025))

    standing_at : (e i n : ℕ) → i < 1025 → HasDocument set root → Arrived e i → n ≡ number_at e i → Standing n
    unfolding Standing
    standing_at e i n l d a q =
        let w = subst (λ (z : ℕ). Arrived e z) (sym (state_of e i l)) a in
        let v = subst (λ (z : ℕ). Arrived z ((number_at e i - 1) % 1025)) (sym (element_of e i l)) w in
        subst (λ (z : ℕ). (z ≡ 0) ⊎ (HasDocument set root × Arrived ((z - 1) / 1025) ((z - 1) % 1025))) (sym q) (inr (d, v))

    from_root : (y : ℕ) → Member y (root_numbers least.rows (place_of set root)) → Standing y
    from_root y m =
        let r = rooted set kept least.rows root y (place_of set root) refl m in
        let t = stands_at set root r.place r.is in
        let a : Arrived r.place 0 = record { element = (root, t.0); at = t.2; path = []; chain = refl; names = []; documents = tt; way = refl } in
        standing_at r.place 0 y (omega arith) (of_size root r.place r.is r.size) a r.number

    from_state : (e i y : ℕ) → HasDocument set root → Arrived e i → Member y (steps_numbers least.rows e (children_at set e i)) → Standing y
    from_state e i y d a m = by p.number
      where
        p : Parsed set kept least.rows e i y
        p = parsed set kept least.rows e i y m

        same : a.element ≡ p.element
        same = let q : Some a.element ≡ Some p.element = sym a.at ∙ p.at in cc

        way : Way p.element.1 0 a.names i
        way = subst (λ (x : Element). Way x.1 0 a.names i) same a.way

        chain : Chain set root a.path p.element.0
        chain = subst (λ (x : Element). Chain set root a.path x.0) same a.chain

        document : HasDocument set p.name
        document = of_size p.name p.child p.place p.size

        by : (y ≡ number_at e p.next) ⊎ (y ≡ number_at p.child 0) → Standing y
        by (inl q) =
            let b : Arrived e p.next =
            record {
              element = p.element;
              at = p.at;
              path = a.path;
              chain = chain;
              names = a.names ++ p.name ∷ [];
              documents = all_both (HasDocument set) a.names (p.name ∷ []) a.documents (document, tt);
              way = way_more p.element.1 0 i p.next a.names p.name way p.follows;
            } in
            standing_at e p.next y (next_small set kept e i p.next p.element p.name p.at p.follows) d b q
        by (inr q) =
            let own = is_at set kept e p.element p.at in
            let l = of_sum p.element.0 p.element.1 e p.next own.0 own.1 p.rest in
            let runs : Runs p.element.1 0 (a.names ++ p.name ∷ l.0) = way_runs p.element.1 0 i a.names (p.name ∷ l.0) way (p.next, p.follows, l.2) in
            let child : IsLiveChild set p.element.0 p.name = (
              p.element.1,
              a.names ++ p.name ∷ l.0,
              own.0,
              runs,
              all_both (HasDocument set) a.names (p.name ∷ l.0) a.documents (document, l.1),
              among_later a.names p.name l.0,
            ) in
            let t = stands_at set p.name p.child p.place in
            let b : Arrived p.child 0 =
            record {
              element = (p.name, t.0);
              at = t.2;
              path = a.path ++ p.name ∷ [];
              chain = chain_more set root p.element.0 p.name a.path chain child;
              names = [];
              documents = tt;
              way = refl;
            } in
            standing_at p.child 0 y (omega arith) d b q

    sound : (y : ℕ) → Reach (step set kept least.rows root) y → Standing y
    unfolding Standing
    sound _ Here = inl refl
    sound _ (There x y r m) = by (x == 0) refl m (sound x r)
      where
        by : (b : Bool) → (x == 0) ≡ b
            → Member y (cond b (root_numbers least.rows (place_of set root)) (steps_numbers least.rows ((x - 1) / 1025) (children_at set ((x - 1) / 1025) ((x - 1) % 1025))))
            → (x ≡ 0) ⊎ (HasDocument set root × Arrived ((x - 1) / 1025) ((x - 1) % 1025))
            → (y ≡ 0) ⊎ (HasDocument set root × Arrived ((y - 1) / 1025) ((y - 1) % 1025))
        by true q m s = from_root y m
        by false q m (inl e) = absurd (true≢false (sym (ap (λ (z : ℕ). z == 0) e) ∙ q))
        by false q m (inr s) = from_state ((x - 1) / 1025) ((x - 1) % 1025) y s.0 s.1 m

    reached_useful : (e : ℕ) (x : Element) → slice_get set.elements e ≡ Some x → Reach (step set kept least.rows root) (number_at e 0) → IsUseful set root x.0
    unfolding Standing
    reached_useful e x h r = by (sound (number_at e 0) r)
      where
        by : ((number_at e 0 ≡ 0) ⊎ (HasDocument set root × Arrived ((number_at e 0 - 1) / 1025) ((number_at e 0 - 1) % 1025))) → IsUseful set root x.0
        by (inl z) = absurd (omega (arith, z))
        by (inr s) =
            let v = subst (λ (z : ℕ). Arrived z ((number_at e 0 - 1) % 1025)) (element_of e 0 (omega arith)) s.1 in
            let same : v.element ≡ x = (let q : Some v.element ≡ Some x = sym v.at ∙ h in cc) in
            (useful_by_chains set root x.0 kept).1 (s.0, (v.path, subst (λ (z : Element). Chain set root v.path z.0) same v.chain))

    -- ---- what is useful is reached

    abbrev IsReached : ℕ → Type 0
    IsReached n = Reach (step set kept least.rows root) n

    abbrev Starts : Chars → Type 0
    Starts name = (c : ℕ) → place_of set name ≡ Some c → IsReached (number_at c 0)

    goes_on : (e i k : ℕ) (x : Element) (name : Chars) → slice_get set.elements e ≡ Some x → i < 1025 → IsReached (number_at e i) → FollowsOn x.1 i name k → HasDocument set name → LeadOn x.1 k
        → IsReached (number_at e k) × Starts name
    goes_on e i k x name h l r f d rest =
        let b = declared set name d in
        let t = has_place set name b.0 b.1 in
        let own = is_at set kept e x h in
        let child = child_in set kept e i k t.0 x name b.0 h b.1 t.1 f in
        let both = step_leads least.rows e t.0 k (has_size name t.0 t.1 d) (has_sum x.0 x.1 e k own.0 own.1 rest) in
        let at = step_at set kept least.rows root e i l in
        let next : (y : ℕ) → Member y (number_at e k ∷ number_at t.0 0 ∷ []) → IsReached y = λ y m.
        (There (number_at e i) y r (subst (λ (ys : List ℕ). Member y ys) (sym at)
        (step_into least.rows e (children_at set e i) (Some t.0, k) y child (subst (λ (ys : List ℕ). Member y ys) (sym both) m)))) in (
          next (number_at e k) (inl refl),
          λ c q.
              let z : Some t.0 ≡ Some c = sym t.1 ∙ q in
              let same : t.0 ≡ c = cc in
              subst (λ (z : ℕ). IsReached (number_at z 0)) same (next (number_at t.0 0) (inr (inl refl))),
        )

    from_names : (e : ℕ) (x : Element) → slice_get set.elements e ≡ Some x → (names : List Chars) (i : ℕ) → i < 1025 → IsReached (number_at e i) → AllByRecursion (HasDocument set) names
        → Runs x.1 i names → (child : Chars) → among names child ≡ true → Starts child
    from_names e x h [] i l r d w child c = absurd (true≢false (sym c))
    from_names e x h (name ∷ names) i l r d w child c =
        let t = goes_on e i w.0 x name h l r w.1 d.0 (names, d.1, w.2) in
        let P : Bool → Type 0 = λ b. bytes_eq child name ≡ b → (b || among names child) ≡ true → Starts child in
        on_test P (bytes_eq child name)
        (λ s q c. subst Starts (sym (bytes_same child name q)) t.1)
        (λ s q c. from_names e x h names w.0 (next_small set kept e i w.0 x name h w.1) t.0 d.1 w.2 child c)
        refl c

    from_chain : (path : List Chars) (e f : Chars) → Starts e → Chain set e path f → Starts f
    from_chain [] e f s c = subst Starts c s
    from_chain (child ∷ path) e f s c =
        let l = c.0 in
        let t = has_place set e l.0 l.2 in
        from_chain path child f (from_names t.0 (e, l.0) t.2 l.1 0 (omega arith) (s t.0 t.1) l.4 l.3 child l.5) c.1

    root_starts : HasDocument set root → Starts root
    root_starts d c q =
        let y = number_at c 0 in
        let there : root_numbers least.rows (place_of set root) ≡ y ∷ [] =
        ap (root_numbers least.rows) q ∙ ap (λ b. cond b (y ∷ []) []) (has_size root c q d) in
        There 0 y Here (subst (λ (ys : List ℕ). Member y ys) (sym there) (inl refl))

    useful_reached : (e : ℕ) (x : Element) → slice_get set.elements e ≡ Some x → IsUseful set root x.0 → IsReached (number_at e 0)
    useful_reached e x h u =
        let t = (useful_by_chains set root x.0 kept).0 u in
        from_chain t.1.0 root x.0 (root_starts t.0) t.1.1 e (is_at set kept e x h).1

    module _ (seen : List Bool) (R : Reaches (step set kept least.rows root) (count_numbers set) seen) where
      pub told : (e : ℕ) (x : Element) → slice_get set.elements e ≡ Some x → Decides (is_seen seen (number_at e 0)) (IsUseful set root x.0)
      told e x h = ((λ s. reached_useful e x h (R.sound (number_at e 0) s)), (λ u. R.complete (number_at e 0) (useful_reached e x h u)))
