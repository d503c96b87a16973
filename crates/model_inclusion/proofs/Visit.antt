-- One visit, and the search around it.
use Rattle.std.proofs.Common.{◌≡◌, List, [], ◌∷◌, ◌++◌, ℕ, zero, suc, ◌+◌, ◌*◌, ◌≤◌, ◌<◌, length, set, get_or, refl, sym, ap, ◌∙◌, subst, arith, Bool, true, false, ◌⊎◌, inl, inr, true≢false, replicate}
use Rattle.std.specs.Prelude.{if◌then◌else◌}
use Rattle.std.proofs.lemmas.List.{get_or-set_same, get_or-set_other, length-set, length-append, get_or-replicate, get_or_past, length-replicate}
use Rattle.std.proofs.lemmas.Bool.{cases_eq, cases_lt}
use Rattle.model_inclusion.specs.Reaching.{Member, Reach, Here, There, is_seen, visit, unseen, Working, Reaches, StaysWithin}
use Rattle.model_inclusion.proofs.Members.{member-left, member-right, member-cases}

unseen-less : (seen : List Bool) (x : ℕ) → x < length seen → is_seen seen x ≡ false → suc (unseen (set seen x true)) ≤ unseen seen
unseen-less [] x h o = absurd (omega arith)
unseen-less (true ∷ bs) zero h o = absurd (true≢false o)
unseen-less (false ∷ bs) zero h o = omega arith
unseen-less (b ∷ bs) (suc x) h o = omega (arith, unseen-less bs x (omega arith) o)

record Visited (row : List ℕ) (seen : List Bool) (st : List ℕ) (seen' : List Bool) (st' : List ℕ) : Type 0 where
  length_same : length seen' ≡ length seen
  keeps : (y : ℕ) → is_seen seen y ≡ true → is_seen seen' y ≡ true
  from : (y : ℕ) → is_seen seen' y ≡ true → (is_seen seen y ≡ true) ⊎ (Member y row × Member y st')
  all : (y : ℕ) → Member y row → is_seen seen' y ≡ true
  stays : (y : ℕ) → Member y st → Member y st'
  came : (y : ℕ) → Member y st' → Member y st ⊎ (Member y row × (is_seen seen' y ≡ true))
  falls : 2 * unseen seen' + length st' ≤ 2 * unseen seen + length st

here : (seen : List Bool) (y : ℕ) → y < length seen → is_seen (set seen y true) y ≡ true
here seen y h = get_or-set_same seen y true false h

other : (seen : List Bool) (y z : ℕ) → (z ≡ y → ⊥) → is_seen (set seen y true) z ≡ is_seen seen z
other seen y z n = get_or-set_other seen y z true false n

visited-step : (y : ℕ) (ys : List ℕ) (seen : List Bool) (st : List ℕ) (seen' : List Bool) (st' : List ℕ) → y < length seen → is_seen seen y ≡ false
    → Visited ys (set seen y true) (st ++ y ∷ []) seen' st' → Visited (y ∷ ys) seen st seen' st'
visited-step y ys seen st seen' st' h o V = record {
  length_same = V.length_same ∙ length-set seen y true;
  keeps = λ z d. V.keeps z (elim (cases_eq z y) [
    | inl e ↦ ap (is_seen (set seen y true)) e ∙ here seen y h
    | inr n ↦ other seen y z n ∙ d
  ]);
  from = λ z d. elim (V.from z d) [
    | inr t ↦ inr (inr t.0, t.1)
    | inl k ↦ elim (cases_eq z y) [
      | inl e ↦ inr (inl e, V.stays z (member-right z st (y ∷ []) (inl e)))
      | inr n ↦ inl (sym (other seen y z n) ∙ k)
    ]
  ];
  all = λ z m. elim m [
    | inl e ↦ V.keeps z (ap (is_seen (set seen y true)) e ∙ here seen y h)
    | inr k ↦ V.all z k
  ];
  stays = λ z m. V.stays z (member-left z st (y ∷ []) m);
  came = λ z m. elim (V.came z m) [
    | inr t ↦ inr (inr t.0, t.1)
    | inl k ↦ elim (member-cases z st (y ∷ []) k) [
      | inl q ↦ inl q
      | inr q ↦ elim q [
        | inl e ↦ inr (inl e, V.keeps z (ap (is_seen (set seen y true)) e ∙ here seen y h))
        | inr q ↦ elim q [ ]
      ]
    ]
  ];
  falls = omega (arith, V.falls, unseen-less seen y h o, length-append st (y ∷ []));
}

visited-skip : (y : ℕ) (ys : List ℕ) (seen : List Bool) (st : List ℕ) (seen' : List Bool) (st' : List ℕ) → is_seen seen y ≡ true
    → Visited ys seen st seen' st' → Visited (y ∷ ys) seen st seen' st'
visited-skip y ys seen st seen' st' o V = record {
  length_same = V.length_same;
  keeps = V.keeps;
  from = λ z d. elim (V.from z d) [ inl k ↦ inl k | inr t ↦ inr (inr t.0, t.1) ];
  all = λ z m. elim m [ inl e ↦ V.keeps z (ap (is_seen seen) e ∙ o) | inr k ↦ V.all z k ];
  stays = V.stays;
  came = λ z m. elim (V.came z m) [ inl k ↦ inl k | inr t ↦ inr (inr t.0, t.1) ];
  falls = V.falls;
}

abbrev Goal : List ℕ → List Bool × List ℕ → Type 0
Goal row s = Visited row s.0 s.1 (visit row s).0 (visit row s).1

visited-go : (y : ℕ) (ys : List ℕ) (s : List Bool × List ℕ) (b : Bool) → is_seen s.0 y ≡ b → y < length s.0
    → ((t : List Bool × List ℕ) → length t.0 ≡ length s.0 → Goal ys t)
    → Visited (y ∷ ys) s.0 s.1 (visit ys (if b then s else (set s.0 y true, s.1 ++ y ∷ []))).0 (visit ys (if b then s else (set s.0 y true, s.1 ++ y ∷ []))).1
visited-go y ys s true o h rec = visited-skip y ys s.0 s.1 (visit ys s).0 (visit ys s).1 o (rec s refl)
visited-go y ys s false o h rec =
    let t : List Bool × List ℕ = (set s.0 y true, s.1 ++ y ∷ []) in
    visited-step y ys s.0 s.1 (visit ys t).0 (visit ys t).1 h o (rec t (length-set s.0 y true))

visited : (row : List ℕ) (s : List Bool × List ℕ) → ((y : ℕ) → Member y row → y < length s.0) → Goal row s
visited [] s h = record {
  length_same = refl;
  keeps = λ y d. d;
  from = λ y d. inl d;
  all = λ y m. elim m [ ];
  stays = λ y m. m;
  came = λ y m. inl m;
  falls = omega arith;
}
visited (y ∷ ys) s h = visited-go y ys s (is_seen s.0 y) refl (h y (inl refl))
    (λ t e. visited ys t (λ z m. (let l : z < length s.0 = h z (inr m) in omega (arith, l, e))))

module _ (step : ℕ → List ℕ) (n : ℕ) (stays : StaysWithin step n) where
  working : (seen : List Bool) (rest : List ℕ) (x : ℕ) (seen' : List Bool) (st' : List ℕ) → Working step n seen (rest ++ x ∷ []) → x < n
      → Visited (step x) seen rest seen' st' → Working step n seen' st'
  working seen rest x seen' st' W h V = record {
    length_same = V.length_same ∙ W.length_same;
    start = V.keeps 0 W.start;
    sound = λ y d. elim (V.from y d) [
      | inl k ↦ W.sound y k
      | inr t ↦ There x y (W.sound x (W.stacked x (member-right x rest (x ∷ []) (inl refl))).1) t.0
    ];
    closed = λ y d. elim (V.from y d) [
      | inr t ↦ inl t.1
      | inl k ↦ elim (W.closed y k) [
        | inr c ↦ inr (λ z e. V.keeps z (c z e))
        | inl m ↦ elim (member-cases y rest (x ∷ []) m) [
          | inl q ↦ inl (V.stays y q)
          | inr q ↦ elim q [
            | inl e ↦ inr (λ z g. V.all z (subst (λ (i : ℕ). Member z (step i)) e g))
            | inr q ↦ elim q [ ]
          ]
        ]
      ]
    ];
    stacked = λ y m. elim (V.came y m) [
      | inl k ↦ (let t = W.stacked y (member-left y rest (x ∷ []) k) in (t.0, V.keeps y t.1))
      | inr t ↦ (stays x y h t.0, t.1)
    ];
  }

  -- ---- the facts at the loop, over plain values

  module _ (seen : List Bool) (stack rest : List ℕ) (x : ℕ) (W : Working step n seen stack) (es : stack ≡ rest ++ x ∷ []) where
    pub within : x < n
    within = (W.stacked x (subst (Member x) (sym es) (member-right x rest (x ∷ []) (inl refl)))).0

    module _ (seen' : List Bool) (st' : List ℕ) (e : (seen', st') ≡ visit (step x) (seen, rest)) where
      V : Visited (step x) seen rest seen' st'
      V = subst (λ (s : List Bool × List ℕ). Visited (step x) seen rest s.0 s.1) (sym e)
          (visited (step x) (seen, rest) (λ y m. (let l = stays x y within m in omega (arith, l, W.length_same))))

      pub following : Working step n seen' st'
      following = working seen rest x seen' st' (subst (Working step n seen) es W) within V

      pub smaller : suc (2 * unseen seen' + length st') ≤ 2 * unseen seen + length stack
      smaller = omega (arith, V.falls, ap length es, length-append rest (x ∷ []))

pub done : (step : ℕ → List ℕ) (n : ℕ) (seen : List Bool) → Working step n seen [] → Reaches step n seen
done step n seen W = record { length_same = W.length_same; sound = W.sound; complete = complete }
  where
    complete : (y : ℕ) → Reach step y → is_seen seen y ≡ true
    complete _ Here = W.start
    complete _ (There x y r e) = elim (W.closed x (complete x r)) [ inl m ↦ elim m [ ] | inr c ↦ c y e ]

pub begin : (step : ℕ → List ℕ) (n : ℕ) (seen : List Bool) → 0 < n → length seen ≡ n → ((y : ℕ) → is_seen seen y ≡ false)
    → Working step n (set seen 0 true) (0 ∷ [])
begin step n seen h l f = record {
  length_same = length-set seen 0 true ∙ l;
  start = here seen 0 (omega arith);
  sound = λ y d. subst (Reach step) (sym (zero-of y d)) Here;
  closed = λ y d. inl (inl (zero-of y d));
  stacked = λ y m. elim m [ inl e ↦ (subst (λ (k : ℕ). k < n) (sym e) h, ap (is_seen (set seen 0 true)) e ∙ here seen 0 (omega arith)) | inr m ↦ elim m [ ] ];
}
  where
    zero-of : (y : ℕ) → is_seen (set seen 0 true) y ≡ true → y ≡ 0
    zero-of y d = elim (cases_eq y 0) [ inl e ↦ e | inr k ↦ absurd (true≢false (sym d ∙ other seen 0 y k ∙ f y)) ]

pub all-false : (n : ℕ) (seen : List Bool) → seen ≡ replicate n false → (y : ℕ) → is_seen seen y ≡ false
all-false n seen e y = elim (cases_lt y n) [
  | inl h ↦ ap (λ (s : List Bool). get_or s y false) e ∙ get_or-replicate n y false false h
  | inr h ↦ get_or_past seen y false (omega (arith, ap length e, length-replicate n false))
]
