-- Names and classes under Green's relations.
use Rattle.std.proofs.Common.{◌≡◌, ℕ, ◌<◌, ◌≤◌, List, length, slice_index, sym, ◌∙◌, subst, arith, Result, OnOk}
use Rattle.theory.specs.Green.{here, IsEdgeOfEither, AreClasses}
use Rattle.froidure_pin.specs.declared.tables.CayleyTables.{CayleyTables}
use Rattle.cayley.specs.Tables.{edge, FitTogether}
use Rattle.green.specs.Grouping.{AreSmall, HaveOneName}
use Rattle.green.specs.Joining.{AreJoinedNames}
use Rattle.green.specs.Naming.{AreNames}
use Rattle.green.specs.Pairing.{AreNamesOfPairs}
use Rattle.green.specs.Related.{AreRelated, DoCommute}
use Rattle.theory.specs.declared.Relation.{Relation}
use Rattle.theory.specs.declared.Relation.TheVariants.{R, L, J}
use Rattle.green.proofs.TourLaws.{reaches_on}
use Rattle.green.proofs.FiniteLaws.{j_is_d}
use Rattle.green.proofs.GroupLaws.{classes_same}
use Rattle.green.proofs.Results.{on_ok}

-- names of pairs are names of both relations at once
pub names_of_both : (n : ℕ) (One Other : ℕ → ℕ → Type 0) (first second names : List ℕ) → AreNames n One first → AreNames n Other second → AreNamesOfPairs first second names
    → AreNames n (λ i j. One i j × Other i j) names
names_of_both n One Other first second names one two h = record {
  count = h.count ∙ one.count;
  within = λ i l. let low = h.within i (omega (arith, l, one.count)) in omega (arith, low, one.count);
  same = λ i j l m.
      let by = h.same i j (omega (arith, l, one.count)) (omega (arith, m, one.count)) in
      let left = one.same i j l m in
      let right = two.same i j l m in
      (λ e. (left.0 (by.0 e).0, right.0 (by.0 e).1), λ r. by.1 (left.1 r.0, right.1 r.1));
}

-- the classes of names are those of the relation
pub classes_by_names : (n : ℕ) (One : ℕ → ℕ → Type 0) (names : List ℕ) (classes : List (List ℕ)) → AreNames n One names
    → AreClasses (length names) (HaveOneName names) classes → AreClasses n One classes
classes_by_names n One names classes h c =
    classes_same n (HaveOneName names) One h.same classes (subst (λ m. AreClasses m (HaveOneName names) classes) h.count c)

-- names are less than how many numbers there are
pub small_names : (n : ℕ) (Rel : ℕ → ℕ → Type 0) (names : List ℕ) → AreNames n Rel names → AreSmall names
small_names n Rel names h i l = let low = h.within i (omega (arith, l, h.count)) in omega (arith, low, h.count)

-- what is collected by names of a relation
pub collected_by_names : {X E : Type 0} (r : Result X E) (t : CayleyTables) (relation given : Relation) (names : List ℕ) (Holds : List (List ℕ) → Type 0) → given ≡ relation
    → AreNames (length t.words) (AreRelated relation t) names → OnOk r ((cs : List (List ℕ)) × AreClasses (length names) (HaveOneName names) cs × Holds cs)
    → OnOk r ((cs : List (List ℕ)) × AreClasses (length t.words) (AreRelated given t) cs × Holds cs)
collected_by_names r t relation given names Holds e h collected =
    on_ok r _ _ collected (λ found.
    (found.0, subst (λ (any : Relation). AreClasses (length t.words) (AreRelated any t) found.0) (sym e) (classes_by_names (length t.words) (AreRelated relation t) names found.0 h found.1), found.2))

-- names of classes that meet are names of J
module _ (t : CayleyTables) (fit : FitTogether t) (commute : DoCommute t) (first second names : List ℕ) (one : AreNames (length t.words) (AreRelated R t) first)
    (two : AreNames (length t.words) (AreRelated L t) second) (h : AreJoinedNames first second names) where
  j_from_l : (i j : ℕ) → i < length t.words → j < length t.words → AreRelated L t i j → AreRelated J t i j
  j_from_l i j l m r = (j_is_d t fit commute i j l m).1 (i, l, (here, here), r)

  j_on : (i m j : ℕ) → AreRelated J t i m → AreRelated J t m j → AreRelated J t i j
  j_on i m j p q = (
    reaches_on (IsEdgeOfEither (length t.letters) (edge t.right) (edge t.left)) p.0 q.0,
    reaches_on (IsEdgeOfEither (length t.letters) (edge t.right) (edge t.left)) q.1 p.1,
  )

  no_greater : (i j : ℕ) → i < length t.words → j < length t.words → AreRelated J t i j → slice_index names j ≤ slice_index names i
  no_greater i j l m r =
      let meets = (h.at i (omega (arith, l, one.count))).meets in
      let low : meets.0 < length t.words = omega (arith, meets.1, one.count) in
      let joined = j_on meets.0 i j (j_from_l meets.0 i low l ((two.same meets.0 i low l).0 meets.2)) r in
      let by = (j_is_d t fit commute meets.0 j low m).0 joined in
      let same = (one.same meets.0 by.0 low by.1).1 by.2 in
      let least = (h.at j (omega (arith, m, one.count))).least by.0 (omega (arith, by.1, one.count)) ((two.same by.0 j by.1 m).1 by.3) in
      omega (arith, least, same, meets.3)

  pub names_of_joined : AreNames (length t.words) (AreRelated J t) names
  names_of_joined = record {
    count = h.count ∙ one.count;
    within = λ i l.
        let meets = (h.at i (omega (arith, l, one.count))).meets in
        let low = one.within meets.0 (omega (arith, meets.1, one.count)) in
        omega (arith, low, meets.3);
    same = λ i j l m. (
      λ e.
          let left = (h.at i (omega (arith, l, one.count))).meets in
          let right = (h.at j (omega (arith, m, one.count))).meets in
          let low : left.0 < length t.words = omega (arith, left.1, one.count) in
          let high : right.0 < length t.words = omega (arith, right.1, one.count) in
          let same = (one.same left.0 right.0 low high).0 (left.3 ∙ e ∙ sym right.3) in
          j_on i left.0 j (j_from_l i left.0 l low ((two.same i left.0 l low).0 (sym left.2)))
          ((j_is_d t fit commute left.0 j low m).1 (right.0, high, same, (two.same right.0 j high m).0 right.2)),
      λ r.
          let down = no_greater i j l m r in
          let up = no_greater j i m l (r.1, r.0) in
          omega (arith, down, up),
    );
  }
