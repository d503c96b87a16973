-- The states of a content decide what it derives.
use Rattle.std.proofs.Common.{◌≡◌, List, [], ◌∷◌, ℕ, Bool, true, false, ◌&&◌, refl, sym, ◌∙◌, subst, IsTrue, true≢false}
use Rattle.std.specs.List.{list_all}
use Rattle.content_models.specs.declared.content.Content.{Content}
use Rattle.content_models.specs.declared.content.Content.TheVariants.{Empty, Any, Mixed, Children}
use Rattle.content_models.specs.declared.content.Particle.{Particle}
use Rattle.content_models.specs.Model.{Chars, Derives, model, among}
use Rattle.position_automata.specs.Automata.{Leads, Way, Accepts}
use Rattle.position_automata.specs.Marked.{Path}
use Rattle.position_automata.specs.Laws.{DerivesByStates, LeadsByWays, OneStateFollows}
use Rattle.position_automata.specs.Runs.{Runs, DerivesByRuns}
use Rattle.position_automata.proofs.Run.{leads_iff_path, generates_iff_runs, deterministic_iff_one-step}

both : (a b : Bool) → IsTrue (a && b) → IsTrue a × IsTrue b
both true b h = (refl, h)
both false b h = absurd (true≢false (sym h))

both_from : (a b : Bool) → IsTrue a → IsTrue b → IsTrue (a && b)
both_from true b h k = k
both_from false b h k = absurd (true≢false (sym h))

way_of_path : (part : Particle) (names : List Chars) (i j : ℕ) → Path (model part) i names j → Way (Children part) i names j
way_of_path part [] i j t = t
way_of_path part (name ∷ names) i j t = (t.0, t.1, way_of_path part names t.0 j t.2)

path_of_way : (part : Particle) (names : List Chars) (i j : ℕ) → Way (Children part) i names j → Path (model part) i names j
path_of_way part [] i j t = t
path_of_way part (name ∷ names) i j t = (t.0, t.1, path_of_way part names t.0 j t.2)

pub derives_by_states : DerivesByStates
derives_by_states Empty names = ((λ d. (0, (d, refl), refl)), (λ t. t.1.0))
derives_by_states Any names = ((λ d. (0, refl, refl)), (λ t. tt))
derives_by_states (Mixed listed) names = ((λ d. (0, (d, refl), refl)), (λ t. t.1.0))
derives_by_states (Children part) names = (
  (λ d. let t = (generates_iff_runs (model part) names).0 d in (t.0, (leads_iff_path (model part) names t.0).1 t.1, t.2)),
  (λ t. (generates_iff_runs (model part) names).1 (t.0, (leads_iff_path (model part) names t.0).0 t.1, t.2)),
)

any_way-to : (names : List Chars) (i : ℕ) → i ≡ 0 → Way Any 0 names i
any_way-to [] i e = sym e
any_way-to (name ∷ names) i e = (0, (refl, refl), any_way-to names i e)

any_way-from : (names : List Chars) (i : ℕ) → Way Any 0 names i → i ≡ 0
any_way-from [] i t = sym t
any_way-from (name ∷ names) i t = any_way-from names i (subst (λ k. Way Any k names i) t.1.1 t.2)

mixed_way-to : (listed names : List Chars) (i : ℕ) → Leads (Mixed listed) names i → Way (Mixed listed) 0 names i
mixed_way-to listed [] i l = sym l.1
mixed_way-to listed (name ∷ names) i l =
    let h = both (among listed name) (list_all (among listed) names) l.0 in
    (0, (refl, h.0, refl), mixed_way-to listed names i (h.1, l.1))

mixed_way-from : (listed names : List Chars) (i : ℕ) → Way (Mixed listed) 0 names i → Leads (Mixed listed) names i
mixed_way-from listed [] i t = (refl, sym t)
mixed_way-from listed (name ∷ names) i t =
    let l = mixed_way-from listed names i (subst (λ k. Way (Mixed listed) k names i) t.1.2 t.2) in
    (both_from (among listed name) (list_all (among listed) names) t.1.1 l.0, l.1)

empty_way-to : (names : List Chars) (i : ℕ) → Leads Empty names i → Way Empty 0 names i
empty_way-to [] i l = sym l.1
empty_way-to (name ∷ names) i l = let e : name ∷ names ≡ [] = l.0 in cc

empty_way-from : (names : List Chars) (i : ℕ) → Way Empty 0 names i → Leads Empty names i
empty_way-from [] i t = (refl, sym t)
empty_way-from (name ∷ names) i t = absurd t.1

pub leads_by_ways : LeadsByWays
leads_by_ways Empty names i = (empty_way-to names i, empty_way-from names i)
leads_by_ways Any names i = (any_way-to names i, any_way-from names i)
leads_by_ways (Mixed listed) names i = (mixed_way-to listed names i, mixed_way-from listed names i)
leads_by_ways (Children part) names i = (
  (λ l. way_of_path part names 0 i ((leads_iff_path (model part) names i).0 l)),
  (λ t. (leads_iff_path (model part) names i).1 (path_of_way part names 0 i t)),
)

pub one_state_follows : OneStateFollows
one_state_follows Empty = ((λ h i j k name f g. absurd f), (λ h. tt))
one_state_follows Any = ((λ h i j k name f g. f.1 ∙ sym g.1), (λ h. tt))
one_state_follows (Mixed listed) = ((λ h i j k name f g. f.2 ∙ sym g.2), (λ h. tt))
one_state_follows (Children part) = deterministic_iff_one-step (model part)

-- ---- from a state to acceptance

pub runs-of_way : (content : Content) (i j : ℕ) (names : List Chars) → Way content i names j → Accepts content j → Runs content i names
runs-of_way content i j [] w a = subst (Accepts content) (sym w) a
runs-of_way content i j (name ∷ names) w a = (w.0, w.1, runs-of_way content w.0 j names w.2 a)

pub way-of_runs : (content : Content) (i : ℕ) (names : List Chars) → Runs content i names → (j : ℕ) × Way content i names j × Accepts content j
way-of_runs content i [] r = (i, refl, r)
way-of_runs content i (name ∷ names) r = let t = way-of_runs content r.0 names r.2 in (t.0, (r.0, r.1, t.1), t.2)

runs-of : (content : Content) (names : List Chars) → Derives content names → Runs content 0 names
runs-of content names d =
    let t = (derives_by_states content names).0 d in
    runs-of_way content 0 t.0 names ((leads_by_ways content names t.0).0 t.1) t.2

derives-of : (content : Content) (names : List Chars) → Runs content 0 names → Derives content names
derives-of content names r =
    let t = way-of_runs content 0 names r in
    (derives_by_states content names).1 (t.0, (leads_by_ways content names t.0).1 t.1, t.2)

pub derives_by_runs : DerivesByRuns
derives_by_runs content names = (runs-of content names, derives-of content names)
