-- What comes of asking for exact tables.
use Rattle.std.proofs.Common.{◌≡◌, ◌≤◌, ℕ, true, List, Option, Some, None, Result, Ok, Err, IfOk, refl, sym, ap, ◌∙◌, true≢false}
use Rattle.std.specs.Prelude.{is_some}
use Rattle.content_models.specs.declared.content.Content.{Content}
use Rattle.content_models.specs.Model.{Chars}
use Rattle.decl_set.specs.Declarations.{Declarations, content_in}
use Rattle.bound_checker.specs.declared.tables.Row.{Row}
use Rattle.comparison_tables.specs.declared.fault.TablesFault.{TablesFault}
use Rattle.comparison_tables.specs.declared.fault.TablesFault.TheVariants as fault
use Rattle.comparison_tables.specs.declared.sides.Side.{Side}
use Rattle.comparison_tables.specs.Finding.{FindsAll, FindsSides}
use Rattle.comparison_tables.specs.Outcome.{HaveExactCosts, AreExactTables, Tabulates}

pub if_more : {A E : Type 0} (P Q : A → Type 0) → ((x : A) → P x → Q x) → (r : Result A E) → IfOk r P → IfOk r Q
if_more P Q h (Ok x) p = h x p
if_more P Q h (Err e) p = tt

module _ (first second : Declarations) (root : Chars) (cap : ℕ) where
  declared : is_some (content_in first root) ≡ true → (a : Content) × (content_in first root ≡ Some a)
  declared h = by (content_in first root) refl h
    where
      by : (o : Option Content) → content_in first root ≡ o → is_some o ≡ true → (a : Content) × (content_in first root ≡ Some a)
      by None q h = absurd (true≢false (sym h))
      by (Some a) q h = (a, q)

  pub tables_are : (sides : List Side) (rows : List Row) (name : Chars) → cap ≤ 100000 → is_some (content_in first root) ≡ true → FindsAll first second sides
      → HaveExactCosts first second cap rows → name ≡ root → AreExactTables first second root cap (record { root = name; cap = cap; rows = rows })
  tables_are sides rows name small h F C q =
      let t = declared h in
      record {
        root_is = q;
        cap_is = refl;
        fits = record { root = (t.0, ap (content_in first) q ∙ t.1); cap = small; rows = C.fit };
        exact = C.exact name;
        pairs = C.pairs;
        sum = F.sum;
        sums = F.sums;
        within = F.within;
      }

  pub fault_is : (f : TablesFault) → FindsSides first second (Err f) → Tabulates first second root cap (Err f)
  fault_is (fault.PairsOver name) h = h
  fault_is fault.NoMemory h = tt
