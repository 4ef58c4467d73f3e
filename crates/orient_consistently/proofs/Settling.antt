-- The first half of pass 4 where each directed edge is used at most once: before the walk, which is then not needed, or after it. Assumes nothing.
use mathlib.Core.Path.{◌≡◌, sym, ap, subst, ◌∙◌}
use mathlib.Core.Bool.{false}
use mathlib.Core.List.{List}
use Prim.Native.Nat.{ℕ, ◌+◌, ◌*◌, ◌/◌}
use native.Mathlib.Omega.{arith}
use lib.ListN.{length, take}
use Rattle.rows.specs.Region.{part, Apart.before, Apart.after, Only, Filled}
use Rattle.rows.proofs.Regions.{only_none, only_both, only_more, holds_kept}
use Rattle.rules.specs.Mesh.{faces_of, flat_faces}
use Rattle.rule_laws.proofs.Flat.{flat_faces_back}
use Rattle.rule_laws.proofs.Relabel.{flat_alike, once_alike}
use Rattle.rule_laws.proofs.Once.{Once}
use Rattle.leaving.specs.Pass.{standing, FacesStand}
use Rattle.table.specs.Table.{TableGives}
use Rattle.table.proofs.Places.{tabled_kept}
use Rattle.orienting.specs.Reaching.{turned_by}
use Rattle.single_use.specs.Single.{SingleAsks}
use Rattle.single_use.proofs.Calm.{same_faces, no_exchanges, no_marks}
use Rattle.orient_consistently.specs.Walked.{taken, LayGives, AllGives, TurnGives, OrientGives}
use Rattle.orient_consistently.proofs.Beginning.{turned_none, states_cleared}
use Rattle.orient_consistently.proofs.Orienting.{bounds}

module _ {P : ℕ} {xs : List ℕ} {n : ℕ} {w : List ℕ} (p : FacesStand (taken P n) P xs n w) {w₁ : List ℕ} (o : Only 3 n w w₁)
    {w₂ : List ℕ} {m : ℕ} (t : TableGives w₁ (take (3 * n) xs) P false (3 + 14 * n) w₂ m) where
  -- the table may be scanned
  pub single_asks : SingleAsks w₂ (take (3 * n) xs) 3 (3 + 14 * n) m
  single_asks = record { points = P; tabled = t.tabled; fit = omega (arith, bounds p, o.long, t.only.long) }

  -- as many states as faces
  states_long : length (take (3 * n) xs) / 3 ≡ n
  states_long = omega (arith, bounds p)

  module _ (z : Filled 3 n 0 w₁) (s : Once (turned_by (part w₂ 3 (length (take (3 * n) xs) / 3)) (faces_of (take (3 * n) xs)))) where
    -- no face is exchanged yet
    unturned : turned_by (part w₂ 3 n) (standing xs n) ≡ standing xs n
    unturned =
        let u = bounds p in
        ap (λ ss. turned_by ss (standing xs n)) (states_cleared w₂ n (omega (arith, u, o.long, t.only.long)) (holds_kept t.only (before (omega arith)) z))
        ∙ turned_none n (standing xs n)

    -- so each directed edge is used at most once as it is
    pub once_now : Once (standing xs n)
    once_now = subst Once (ap (λ k. turned_by (part w₂ 3 k) (standing xs n)) states_long ∙ unturned) s

    -- so the walk would change nothing
    pub calm_gives : OrientGives P xs n w xs w₂ 0 0
    calm_gives =
        let u = bounds p in
        record {
          faces = sym (ap flat_faces (same_faces (standing xs n) once_now) ∙ flat_faces_back (take (3 * n) xs) (omega (arith, u)));
          exchanges = sym (no_exchanges (standing xs n) once_now);
          marks = sym (no_marks (standing xs n) once_now);
          few_exchanges = omega arith;
          few_marks = omega arith;
          only_faces = only_none 0 (3 * n) xs;
          only_work = only_both (only_more (omega arith) (omega (arith, u)) o) (only_more (omega arith) (omega (arith, u)) t.only);
        }

  module _ {w₃ : List ℕ} (y : LayGives w₂ (take (3 * n) xs) n w₃) {w₄ : List ℕ} {r : ℕ} (g : AllGives w₃ (take (3 * n) xs) n w₄ r) where
    -- the table still stands after the walk
    pub single_asks_after : SingleAsks w₄ (take (3 * n) xs) 3 (3 + 14 * n) m
    single_asks_after =
        record {
          points = P;
          tabled = tabled_kept g.only (after (omega arith)) (tabled_kept y.only (after (omega arith)) t.tabled);
          fit = omega (arith, bounds p, o.long, t.only.long, y.only.long, g.only.long);
        }

    -- what is said of the faces under their states is said of those that are turned
    pub once_turned : {xs' : List ℕ} → TurnGives xs w₄ n xs' → Once (turned_by (part w₄ 3 (length (take (3 * n) xs) / 3)) (faces_of (take (3 * n) xs))) → Once (standing xs' n)
    once_turned h s =
        let gs = turned_by (part w₄ 3 n) (standing xs n) in
        subst Once (sym (ap faces_of h.faces))
        (once_alike (faces_of (flat_faces gs)) gs (flat_alike gs) (subst Once (ap (λ k. turned_by (part w₄ 3 k) (standing xs n)) states_long) s))
