-- Contents are told apart exactly where they part at a listed pair.
use Rattle.std.proofs.Common.{◌≡◌, List, [], ◌∷◌, ◌++◌, ℕ, Option, Some, None, inl, inr, refl, sym, ap, ◌∙◌, subst, true, ◌&&◌}
use Rattle.std.specs.List.{list_all}
use Rattle.std.proofs.lemmas.Bool.{and_parts}
use Rattle.std.proofs.lemmas.List.Folds.{list_all-append}
use Rattle.content_models.specs.declared.content.Content.{Content}
use Rattle.content_models.specs.Model.{Chars, among}
use Rattle.position_automata.specs.Automata.{FollowsOn, Accepts, IsDeterministic, Way}
use Rattle.position_automata.specs.Runs.{Runs}
use Rattle.position_automata.specs.Stepping.{step_on}
use Rattle.position_automata.proofs.States.{one_state_follows, runs-of_way, way-of_runs, derives_by_runs, leads_by_ways}
use Rattle.position_automata.proofs.Stepping.{on_to, on_none}
use Rattle.model_inclusion.specs.Listed.{IsListed}
use Rattle.model_inclusion.specs.Laws.{Reached, Starts, Steps}
use Rattle.model_inclusion.specs.Included.{Separates, PartAt, SeparatesAtPairs}
use Rattle.model_inclusion.proofs.Closing.{listed_by_closure}

runs_more : (a : Content) (i k : ℕ) (u v : List Chars) → Way a i u k → Runs a k v → Runs a i (u ++ v)
runs_more a i k [] v w r = subst (λ (z : ℕ). Runs a z v) (sym w) r
runs_more a i k (x ∷ u) v w r = (w.0, w.1, runs_more a w.0 k u v w.2 r)

runs_split : (a : Content) (i : ℕ) (u v : List Chars) → Runs a i (u ++ v) → (k : ℕ) × Way a i u k × Runs a k v
runs_split a i [] v r = (i, refl, r)
runs_split a i (x ∷ u) v r = let t = runs_split a r.0 u v r.2 in (t.0, (r.0, r.1, t.1), t.2)

one_way : (b : Content) → IsDeterministic b → (i j k : ℕ) (u : List Chars) → Way b i u j → Way b i u k → j ≡ k
one_way b d i j k [] w v = sym w ∙ v
one_way b d i j k (x ∷ u) w v =
    let same : v.0 ≡ w.0 = (one_state_follows b).0 d i v.0 w.0 x v.1 w.1 in
    one_way b d w.0 j k u w.2 (subst (λ (z : ℕ). Way b z u k) same v.2)

module _ (live : List Chars) (a b : Content) where
  abbrev Found : Type 0
  Found = (i : ℕ) × (j : ℕ) × IsListed live a b i j × PartAt live a b i j

  along : (names : List Chars) (i j : ℕ) → Reached live a b i j → list_all (among live) names ≡ true → Runs a i names → (Runs b j names → ⊥) → Found
  along [] i j r t f n = (i, j, (listed_by_closure live a b i j).1 r, inl (f, n))
  along (name ∷ names) i j r t f n =
      by (step_on b j name) refl (λ l g. along names f.0 l (Steps i j f.0 l name r p.0 f.1 g) p.1 f.2 (λ q. n (l, g, q)))
    where
      p : (among live name ≡ true) × (list_all (among live) names ≡ true)
      p = and_parts (among live name) (list_all (among live) names) t

      by : (o : Option ℕ) → step_on b j name ≡ o → ((l : ℕ) → FollowsOn b j name l → Found) → Found
      by None q rec = (i, j, (listed_by_closure live a b i j).1 r, inr (name, f.0, p.0, f.1, (λ l g. on_none b j l name q g), (names, p.1, f.2)))
      by (Some l) q rec = rec l (on_to b j l name q)

  separates_to : Separates live a b → Found
  separates_to s = along s.0 0 0 Starts s.1 ((derives_by_runs a s.0).0 s.2) (λ r. s.3 ((derives_by_runs b s.0).1 r))

  separates_from : IsDeterministic b → Found → Separates live a b
  separates_from d f = by f.3
    where
      u : List Chars
      u = f.2.0

      wa : Way a 0 u f.0
      wa = (leads_by_ways a u f.0).0 f.2.2

      wb : Way b 0 u f.1
      wb = (leads_by_ways b u f.1).0 f.2.3

      by : PartAt live a b f.0 f.1 → Separates live a b
      by (inl h) = (
        u,
        f.2.1,
        (derives_by_runs a u).1 (runs-of_way a 0 f.0 u wa h.0),
        λ q.
            let t = way-of_runs b 0 u ((derives_by_runs b u).0 q) in
            let same : t.0 ≡ f.1 = one_way b d 0 t.0 f.1 u t.1 wb in
            h.1 (subst (Accepts b) same t.2),
      )
      by (inr h) =
          let rest = h.5 in
          let names = u ++ h.0 ∷ rest.0 in
          let all : list_all (among live) names ≡ true =
          list_all-append (among live) u (h.0 ∷ rest.0) ∙ ap (λ x. x && (among live h.0 && list_all (among live) rest.0)) f.2.1
          ∙ ap (λ x. true && (x && list_all (among live) rest.0)) h.2 ∙ ap (λ x. true && (true && x)) rest.1 in (
            names,
            all,
            (derives_by_runs a names).1 (runs_more a 0 f.0 u (h.0 ∷ rest.0) wa (h.1, h.3, rest.2)),
            λ q.
                let t = runs_split b 0 u (h.0 ∷ rest.0) ((derives_by_runs b names).0 q) in
                let same : t.0 ≡ f.1 = one_way b d 0 t.0 f.1 u t.1 wb in
                h.4 t.2.0 (subst (λ (z : ℕ). FollowsOn b z h.0 t.2.0) same t.2.1),
          )

pub separates_at_pairs : SeparatesAtPairs
separates_at_pairs live a b d = (separates_to live a b, separates_from live a b d)
