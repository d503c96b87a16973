-- What is spelled is read.
use Rattle.std.proofs.Common.{◌≡◌, List, [], ◌∷◌, ◌++◌, ℕ, zero, suc, ◌+◌, ◌-◌, ◌≤◌, max, map, length, length-append, take, drop, refl, sym, ap, ◌∙◌, subst, arith, true, false, true≢false, Option, Some, None}
use Rattle.std.specs.Prelude.{option_and_then, option_map, if◌then◌else◌, ◌==◌, not}
use Rattle.std.specs.List.{list_all}
use Rattle.std.proofs.lemmas.List.{append_assoc, append-nil}
use Rattle.jats_chars.specs.Classes.{is_space, is_name_char}
use Rattle.jats_chars.specs.Names.{is_name}
use Rattle.content_models.specs.declared.content.Occurs.{Occurs}
use Rattle.content_models.specs.declared.content.Occurs.TheVariants.{Once, Opt, Star}
use Rattle.content_models.specs.declared.content.Occurs.TheVariants as sign
use Rattle.content_models.specs.declared.content.Particle.{Particle}
use Rattle.content_models.specs.declared.content.Particle.TheVariants.{One, Seq, Choice}
use Rattle.content_models.specs.Model.{Chars}
use Rattle.content_models.specs.Proper.{depth, greatest}
use Rattle.content_models.specs.Grammar.{IsSpaces, mark, SpellsPart, SpellsRest, a_name, a_sequence, a_choice, no_more, one_more}
use Rattle.content_models.specs.Reading.{Read, skip, name_length, bare, marked, named, occurs_of, closed, more, grouped_by, grouped, read}
use Rattle.content_models.proofs.Places.{skip-space, skip-other, length-nil, length-more, length-stop, eq-false}
use Rattle.content_models.proofs.Groups.{more-close, more-next, grouped_some}
use Rattle.content_models.proofs.Counts.{depth-Seq, depth-Choice}
use Rattle.content_models.proofs.Letters.{and-left, and-right, not-true, stops_at, stops, space_stops, close_stops, comma_stops, bar_stops, comma_plain, bar_plain, open_plain, close_plain, opt_ends, star_ends, plus_ends, name_space, name_open, name_chars}
use Rattle.content_models.proofs.Rests.{RestOf, Named, rest_length}

-- an item that is read wherever it stands before something that stops it
abbrev pub Good : {X : Type 0} → (Chars → Read X) → Chars → X → Type 0
Good one s x = ((r : Chars) → stops r ≡ true → one (s ++ r) ≡ Some (x, r)) × ((r : Chars) → skip (s ++ r) ≡ s ++ r)

pub skip_spaces : (a r : Chars) → IsSpaces a → skip (a ++ r) ≡ skip r
skip_spaces [] r h = refl
skip_spaces (c ∷ a) r h =
    skip-space c (a ++ r) (and-left (is_space c) (list_all is_space a) h) ∙ skip_spaces a r (and-right (is_space c) (list_all is_space a) h)

-- names
take-front : (w r : Chars) → take (length w) (w ++ r) ≡ w
take-front [] r = refl
take-front (c ∷ w) r = ap (λ k. c ∷ k) (take-front w r)

drop-front : (w r : Chars) → drop (length w) (w ++ r) ≡ r
drop-front [] r = refl
drop-front (c ∷ w) r = drop-front w r

length-word : (w r : Chars) → list_all is_name_char w ≡ true → name_length r ≡ 0 → name_length (w ++ r) ≡ length w
length-word [] r h e = e
length-word (c ∷ w) r h e =
    length-more c (w ++ r) (and-left (is_name_char c) (list_all is_name_char w) h)
    ∙ (let i = length-word w r (and-right (is_name_char c) (list_all is_name_char w) h) e in let q : 1 + name_length (w ++ r) ≡ suc (length w) = omega (arith, i) in q)

length-stops : (r : Chars) → stops r ≡ true → name_length r ≡ 0
length-stops [] h = length-nil
length-stops (c ∷ r) h = length-stop c r (not-true (is_name_char c) (and-left (not (is_name_char c)) _ h))

length-mark : (o : Occurs) (r : Chars) → stops r ≡ true → name_length (mark o ++ r) ≡ 0
length-mark Once r h = length-stops r h
length-mark Opt r h = length-stop 63 r opt_ends
length-mark Star r h = length-stop 42 r star_ends
length-mark sign.Plus r h = length-stop 43 r plus_ends

occurs-stops : (r : Chars) → stops r ≡ true → occurs_of r ≡ (Once, r)
occurs-stops [] h = refl
occurs-stops (c ∷ r) h =
    let a = and-right (not (is_name_char c)) _ h in
    let b = and-right (not (c == 63)) _ a in
    ap (λ k. if k then (Opt, r) else (if c == 42 then (Star, r) else (if c == 43 then (sign.Plus, r) else (Once, c ∷ r)))) (not-true (c == 63) (and-left (not (c == 63)) _ a))
    ∙ ap (λ k. if k then (Star, r) else (if c == 43 then (sign.Plus, r) else (Once, c ∷ r))) (not-true (c == 42) (and-left (not (c == 42)) _ b))
    ∙ ap (λ k. if k then (sign.Plus, r) else (Once, c ∷ r)) (not-true (c == 43) (and-right (not (c == 42)) _ b))

occurs-mark : (o : Occurs) (r : Chars) → stops r ≡ true → occurs_of (mark o ++ r) ≡ (o, r)
occurs-mark Once r h = occurs-stops r h
occurs-mark Opt r h = refl
occurs-mark Star r h = refl
occurs-mark sign.Plus r h = refl

bare-word : (w r : Chars) → is_name w ≡ true → name_length r ≡ 0 → bare (w ++ r) ≡ Some (w, r)
unfolding bare
bare-word w r h z =
    let t = w ++ r in
    ap (λ k. if is_name (take k t) then Some (take k t, drop k t) else None) (length-word w r (name_chars w h) z)
    ∙ ap (λ k. if is_name k then Some (k, drop (length w) t) else None) (take-front w r)
    ∙ ap (λ b. if b then Some (w, drop (length w) t) else None) h
    ∙ ap (λ k. Some (w, k)) (drop-front w r)

skip-word : (w r : Chars) → is_name w ≡ true → skip (w ++ r) ≡ w ++ r
skip-word [] r h = absurd (true≢false (sym h))
skip-word (c ∷ w) r h = skip-other c (w ++ r) (name_space c w h)

pub bare_good : (s name : Chars) → Named s name → Good bare s name
bare_good s name n =
    subst (λ k. Good bare k name) (sym n.0) ((λ r h. bare-word name r n.1 (length-stops r h)), (λ r. skip-word name r n.1))

named-word : (w r : Chars) (o : Occurs) → is_name w ≡ true → stops r ≡ true → named (w ++ (mark o ++ r)) ≡ Some (One w o, r)
named-word w r o h s =
    ap (option_map marked) (bare-word w (mark o ++ r) h (length-mark o r s))
    ∙ ap (λ k. Some (One w k.0, k.1)) (occurs-mark o r s)

-- items
module _ {X : Type 0} (one : Chars → Read X) (sep : ℕ) (not_close : sep ≡ 41 → ⊥) (plain : is_space sep ≡ false) (stop : stops_at sep ≡ true) where
  spaces-stop : (a : Chars) (c : ℕ) (t : Chars) → IsSpaces a → stops_at c ≡ true → stops (a ++ (c ∷ t)) ≡ true
  spaces-stop [] c t h e = e
  spaces-stop (d ∷ a) c t h e = space_stops d (and-left (is_space d) (list_all is_space a) h)

  -- the text with what follows
  pub with : (a b s rest u m : Chars) → u ≡ a ++ (sep ∷ (b ++ (s ++ rest))) → u ++ m ≡ a ++ (sep ∷ (b ++ (s ++ (rest ++ m))))
  with a b s rest u m e = ap (λ k. k ++ m) e ∙ simp append_assoc

  pub rest_stops : (xs : List X) (u m : Chars) → RestOf (Good one) sep u xs → stops (u ++ (41 ∷ m)) ≡ true
  rest_stops [] u m r = spaces-stop u 41 m r close_stops
  rest_stops (x ∷ xs) u m r =
      ap stops (with r.0 r.1 r.2 r.3 u (41 ∷ m) r.4) ∙ spaces-stop r.0 sep (r.1 ++ (r.2 ++ (r.3 ++ (41 ∷ m)))) r.5 stop

  pub rest_none : (u m : Chars) → IsSpaces u → skip (u ++ (41 ∷ m)) ≡ 41 ∷ m
  rest_none u m r = skip_spaces u (41 ∷ m) r ∙ skip-other 41 m close_plain

  pub rest_some : (x : X) (xs : List X) (u m : Chars) → (r : RestOf (Good one) sep u (x ∷ xs)) → skip (u ++ (41 ∷ m)) ≡ sep ∷ (r.1 ++ (r.2 ++ (r.3 ++ (41 ∷ m))))
  rest_some x xs u m r =
      ap skip (with r.0 r.1 r.2 r.3 u (41 ∷ m) r.4)
      ∙ skip_spaces r.0 (sep ∷ (r.1 ++ (r.2 ++ (r.3 ++ (41 ∷ m))))) r.5
      ∙ skip-other sep (r.1 ++ (r.2 ++ (r.3 ++ (41 ∷ m)))) plain

  pub more_back : (n : ℕ) (was xs : List X) (u m : Chars) → length xs ≤ n → RestOf (Good one) sep u xs
      → more one n sep was (skip (u ++ (41 ∷ m))) ≡ Some (was ++ xs, m)
  more_back n was [] u m l r =
      ap (more one n sep was) (rest_none u m r) ∙ more-close one n sep 41 was m refl ∙ ap (λ k. Some (k, m)) (sym (append-nil was))
  more_back zero was (x ∷ xs) u m l r = absurd (omega arith)
  more_back (suc n) was (x ∷ xs) u m l r =
      let go : X × Chars → Option (List X × Chars) = λ y. more one n sep (was ++ y.0 ∷ []) (skip y.1) in
      let after = r.3 ++ (41 ∷ m) in
      let tail = r.1 ++ (r.2 ++ after) in
      let front : one (skip tail) ≡ Some (x, after) =
      ap one (skip_spaces r.1 (r.2 ++ after) r.6 ∙ r.7.1 after) ∙ r.7.0 after (rest_stops xs r.3 m r.8) in
      let fuel : suc n - 1 ≡ n = omega arith in
      ap (more one (suc n) sep was) (rest_some x xs u m r)
      ∙ more-next one (suc n) sep sep was tail (omega arith) not_close refl
      ∙ ap (λ k. option_and_then (λ y. more one k sep (was ++ y.0 ∷ []) (skip y.1)) (one (skip tail))) fuel
      ∙ ap (option_and_then go) front
      ∙ more_back n (was ++ x ∷ []) xs r.3 m (omega arith) r.8
      ∙ ap (λ k. Some (k, m)) (append_assoc was (x ∷ []) xs)

-- groups
module _ (one : Chars → Read Particle) where
  group-text : (a s u r : Chars) (o : Occurs) → (a ++ (s ++ (u ++ (41 ∷ mark o)))) ++ r ≡ a ++ (s ++ (u ++ (41 ∷ (mark o ++ r))))
  group-text a s u r o = simp append_assoc

  closed-mark : (make : List Particle → Occurs → Particle) (ps : List Particle) (o : Occurs) (r : Chars) → stops r ≡ true → closed make (ps, mark o ++ r) ≡ (make ps o, r)
  closed-mark make ps o r h = ap (λ k. (make ps k.0, k.1)) (occurs-mark o r h)

  seq-by : (n : ℕ) (p : Particle) (ps : List Particle) (u m : Chars) → RestOf (Good one) 44 u ps
      → grouped_by one n p (skip (u ++ (41 ∷ m))) ≡ option_map (closed Seq) (more one n 44 (p ∷ []) (skip (u ++ (41 ∷ m))))
  unfolding grouped_by
  seq-by n p [] u m r =
      let F : Chars → Type 0 = λ k. grouped_by one n p k ≡ option_map (closed Seq) (more one n 44 (p ∷ []) k) in
      subst F (sym (rest_none one 44 (λ e. omega arith) comma_plain comma_stops u m r)) refl
  seq-by n p (q ∷ ps) u m r =
      let F : Chars → Type 0 = λ k. grouped_by one n p k ≡ option_map (closed Seq) (more one n 44 (p ∷ []) k) in
      subst F (sym (rest_some one 44 (λ e. omega arith) comma_plain comma_stops q ps u m r)) refl

  choice-by : (n : ℕ) (p q : Particle) (ps : List Particle) (u m : Chars) → RestOf (Good one) 124 u (q ∷ ps)
      → grouped_by one n p (skip (u ++ (41 ∷ m))) ≡ option_map (closed Choice) (more one n 124 (p ∷ []) (skip (u ++ (41 ∷ m))))
  unfolding grouped_by
  choice-by n p q ps u m r =
      let F : Chars → Type 0 = λ k. grouped_by one n p k ≡ option_map (closed Choice) (more one n 124 (p ∷ []) k) in
      subst F (sym (rest_some one 124 (λ e. omega arith) bar_plain bar_stops q ps u m r)) refl

  first-read : (a s u : Chars) (p : Particle) (m : Chars) → IsSpaces a → Good one s p → stops (u ++ (41 ∷ m)) ≡ true
      → one (skip (a ++ (s ++ (u ++ (41 ∷ m))))) ≡ Some (p, u ++ (41 ∷ m))
  first-read a s u p m w g h = ap one (skip_spaces a (s ++ (u ++ (41 ∷ m))) w ∙ g.1 (u ++ (41 ∷ m))) ∙ g.0 (u ++ (41 ∷ m)) h

  pub seq_back : (n : ℕ) (a s u r : Chars) (p : Particle) (ps : List Particle) (o : Occurs) → IsSpaces a → Good one s p → RestOf (Good one) 44 u ps → length ps ≤ n
      → stops r ≡ true → grouped one n ((a ++ (s ++ (u ++ (41 ∷ mark o)))) ++ r) ≡ Some (Seq (p ∷ ps) o, r)
  seq_back n a s u r p ps o w g t l h =
      let m = mark o ++ r in
      ap (grouped one n) (group-text a s u r o)
      ∙ grouped_some one n (a ++ (s ++ (u ++ (41 ∷ m)))) (p, u ++ (41 ∷ m)) (first-read a s u p m w g (rest_stops one 44 (λ e. omega arith) comma_plain comma_stops ps u m t))
      ∙ seq-by n p ps u m t
      ∙ ap (option_map (closed Seq)) (more_back one 44 (λ e. omega arith) comma_plain comma_stops n (p ∷ []) ps u m l t)
      ∙ ap Some (closed-mark Seq (p ∷ ps) o r h)

  pub choice_back : (n : ℕ) (a s u r : Chars) (p q : Particle) (ps : List Particle) (o : Occurs) → IsSpaces a → Good one s p → RestOf (Good one) 124 u (q ∷ ps)
      → length (q ∷ ps) ≤ n → stops r ≡ true → grouped one n ((a ++ (s ++ (u ++ (41 ∷ mark o)))) ++ r) ≡ Some (Choice (p ∷ q ∷ ps) o, r)
  choice_back n a s u r p q ps o w g t l h =
      let m = mark o ++ r in
      ap (grouped one n) (group-text a s u r o)
      ∙ grouped_some one n (a ++ (s ++ (u ++ (41 ∷ m)))) (p, u ++ (41 ∷ m)) (first-read a s u p m w g (rest_stops one 124 (λ e. omega arith) bar_plain bar_stops (q ∷ ps) u m t))
      ∙ choice-by n p q ps u m t
      ∙ ap (option_map (closed Choice)) (more_back one 124 (λ e. omega arith) bar_plain bar_stops n (p ∷ []) (q ∷ ps) u m l t)
      ∙ ap Some (closed-mark Choice (p ∷ q ∷ ps) o r h)

-- parts
read-word : (n d : ℕ) (w t : Chars) → is_name w ≡ true → read n d (w ++ t) ≡ named (w ++ t)
unfolding read
read-word n d [] t h = absurd (true≢false (sym h))
read-word n zero (c ∷ w) t h = refl
read-word n (suc d) (c ∷ w) t h = ap (λ b. if b then grouped (read n d) n (w ++ t) else named (c ∷ (w ++ t))) (eq-false c 40 (name_open c w h))

name_good : (n d : ℕ) (w : Chars) (o : Occurs) → is_name w ≡ true → Good (read n d) (w ++ mark o) (One w o)
name_good n d w o h = (
  (λ r s. ap (read n d) (append_assoc w (mark o) r) ∙ read-word n d w (mark o ++ r) h ∙ named-word w r o h s),
  (λ r. ap skip (append_assoc w (mark o) r) ∙ skip-word w (mark o ++ r) h ∙ sym (append_assoc w (mark o) r)),
)

group_good : (n d : ℕ) (t : Chars) (p : Particle) → ((r : Chars) → stops r ≡ true → grouped (read n d) n (t ++ r) ≡ Some (p, r)) → Good (read n (suc d)) (40 ∷ t) p
unfolding read
group_good n d t p f = (f, (λ r. skip-other 40 (t ++ r) open_plain))

-- lengths inside a group and behind a part
inside-group : (a s u m : Chars) (n : ℕ) → length (40 ∷ (a ++ (s ++ (u ++ (41 ∷ m))))) ≤ n → (length s ≤ n) × (length u ≤ n)
inside-group a s u m n h =
    let e : length (a ++ (s ++ (u ++ (41 ∷ m)))) ≡ length a + (length s + (length u + suc (length m))) = simp length-append in
    (omega arith, omega arith)

inside-rest : (sep : ℕ) (a b s u : Chars) (n : ℕ) → length (a ++ (sep ∷ (b ++ (s ++ u)))) ≤ n → (length s ≤ n) × (length u ≤ n)
inside-rest sep a b s u n h =
    let e : length (a ++ (sep ∷ (b ++ (s ++ u)))) ≡ length a + suc (length b + (length s + length u)) = simp length-append in
    (omega arith, omega arith)

mutual
  pub part_good : (s : Chars) (p : Particle) → SpellsPart s p → (n d : ℕ) → length s ≤ n → depth p ≤ d → Good (read n d) s p
  part_good s p (a_name w o h) n d l k = name_good n d w o h
  part_good s p (a_sequence a f u q qs o w g t) n zero l k = absurd (omega (arith, depth-Seq (q ∷ qs) o))
  part_good s p (a_sequence a f u q qs o w g t) n (suc d) l k =
      let i = inside-group a f u (mark o) n l in
      let deep : max (depth q) (greatest (map depth qs)) ≤ d = omega (arith, depth-Seq (q ∷ qs) o) in
      let first = part_good f q g n d i.0 (omega arith) in
      let rest = rest_good 44 u qs t n d i.1 (omega arith) in
      group_good n d (a ++ (f ++ (u ++ (41 ∷ mark o)))) (Seq (q ∷ qs) o)
      (λ r h. seq_back (read n d) n a f u r q qs o w first rest (omega (arith, rest_length (Good (read n d)) 44 qs u rest, i.1)) h)
  part_good s p (a_choice a f u q v qs o w g t) n zero l k = absurd (omega (arith, depth-Choice (q ∷ v ∷ qs) o))
  part_good s p (a_choice a f u q v qs o w g t) n (suc d) l k =
      let i = inside-group a f u (mark o) n l in
      let deep : max (depth q) (greatest (map depth (v ∷ qs))) ≤ d = omega (arith, depth-Choice (q ∷ v ∷ qs) o) in
      let first = part_good f q g n d i.0 (omega arith) in
      let rest = rest_good 124 u (v ∷ qs) t n d i.1 (omega arith) in
      group_good n d (a ++ (f ++ (u ++ (41 ∷ mark o)))) (Choice (q ∷ v ∷ qs) o)
      (λ r h. choice_back (read n d) n a f u r q v qs o w first rest (omega (arith, rest_length (Good (read n d)) 124 (v ∷ qs) u rest, i.1)) h)

  pub rest_good : (sep : ℕ) (u : Chars) (ps : List Particle) → SpellsRest sep u ps → (n d : ℕ) → length u ≤ n → greatest (map depth ps) ≤ d → RestOf (Good (read n d)) sep u ps
  rest_good sep u ps (no_more sep' a w) n d l k = w
  rest_good sep u ps (one_more sep' a b f v q qs w x g t) n d l k =
      let i = inside-rest sep' a b f v n l in
      (a, b, f, v, refl, w, x, part_good f q g n d i.0 (omega arith), rest_good sep' v qs t n d i.1 (omega arith))
