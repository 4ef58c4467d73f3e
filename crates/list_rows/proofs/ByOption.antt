-- Pass 5 and pass 6 by their options, as rows: what they tell if they are on, and that they tell nothing if they are off. Assumes nothing.
use mathlib.Core.Path.{◌≡◌, refl, sym, ap, ◌∙◌, subst}
use mathlib.Core.Bool.{Bool, true, false, cond}
use mathlib.Core.List.{List, [], ◌∷◌, ◌++◌, map}
use Prim.Native.Nat.{ℕ, zero, suc, ◌+◌, ◌*◌, ◌/◌, ◌%◌, ◌^◌, ◌<◌}
use native.Mathlib.Omega.{arith}
use native.Mathlib.Nat.{add-zero}
use lib.Dec.{eqb}
use lib.ListN.{length}
use borrow.Author.Tests.{eq-eqb, ne_eqb}
use Rattle.rows.specs.Region.{Only, Filled}
use Rattle.rows.proofs.Regions.{only_none, only2_none}
use Rattle.rules.specs.Lists.{below, each}
use Rattle.rules.specs.Mesh.{corners, flat_faces}
use Rattle.rules.specs.Repair.{bit, optional}
use Rattle.rules.specs.Pass5.{pass5}
use Rattle.rules.specs.Mending.{split_point, isolated_point, lines5, lines6}
use Rattle.rule_laws.proofs.Lists.{each_append}
use Rattle.mending_rows.specs.Told.{Fates, splits_told, unused_told}
use Rattle.split_rows.specs.Rows.{SplitAsks, SplitGives, FlagsGives}
use Rattle.split_rows.proofs.Told.{rows_tell5, rows_tell6}
use Rattle.list_rows.specs.Prepared.{SplitIf, FlagsIf}

-- the option of a pass is a digit of the options
pub bit_on : (k o : ℕ) → o / 2 ^ k % 2 ≡ 1 → bit k o ≡ true
unfolding bit
bit_on k o e = eq-eqb (o / 2 ^ k % 2) 1 e

pub bit_off : (k o : ℕ) → (o / 2 ^ k % 2 ≡ 1 → ⊥) → bit k o ≡ false
unfolding bit
bit_off k o e = ne_eqb (o / 2 ^ k % 2) 1 e

-- ---- pass 5

module _ {options : ℕ} {xs : List ℕ} {n P : ℕ} {w : List ℕ} {olds : ℕ} (p : SplitAsks xs n P w olds) where
  -- it is on
  pub split_on : {xs' w' : List ℕ} {r : ℕ} → bit 3 options ≡ true → SplitGives xs n P w olds xs' w' r → SplitIf options xs n P w olds xs' w' r
  unfolding optional
  split_on {xs'} {w'} {r} e g =
      record {
        number = λ m s. g.number m s ∙ ap (λ b. length (optional b pass5 m).points) (sym e);
        faces = λ m s. g.faces m s ∙ ap (λ b. flat_faces (optional b pass5 m).faces) (sym e);
        tells = λ m s t q old takers. ap (λ b. cond b (lines5 m) []) e ∙ rows_tell5 p g m s t q old takers;
        most = g.most;
        inside = g.inside;
        only_faces = g.only_faces;
        only_work = g.only_work;
      }

  -- it is off
  pub split_off : bit 3 options ≡ false → SplitIf options xs n P w olds xs w 0
  unfolding optional splits_told below
  split_off e =
      record {
        number = λ m s. add-zero P ∙ sym s.many ∙ ap (λ b. length (optional b pass5 m).points) (sym e);
        faces = λ m s. sym s.corners ∙ ap (λ b. flat_faces (optional b pass5 m).faces) (sym e);
        tells = λ m s t q old takers. ap (λ b. cond b (lines5 m) []) e ∙ sym (none t q);
        most = omega arith;
        inside = λ i h. omega (arith, p.stand.inside i h);
        only_faces = only_none 0 (3 * n) xs;
        only_work = only2_none 0 _ olds (3 * n) w;
      }
    where
      none : (t : Fates) → t.splits ≡ 0 → splits_told P t ≡ []
      none t q = ap (λ k. map (λ j. split_point (t.old j) (P + j) (t.takers j)) (below k)) q

-- ---- pass 6

-- no point is told
nothing : (unused : ℕ → Bool) (n : ℕ) → ((v : ℕ) → v < n → unused v ≡ false) → each (λ v. cond (unused v) (isolated_point v ∷ []) []) (below n) ≡ []
unfolding below each
nothing unused zero h = refl
nothing unused (suc n) h =
    each_append (λ v. cond (unused v) (isolated_point v ∷ []) []) (below n) (n ∷ [])
    ∙ (let a = nothing unused n (λ v l. h v (omega arith)) in
    let b = h n (omega arith) in
    λ i. a i ++ (cond (b i) (isolated_point n ∷ []) [] ++ []))

-- it is on
pub flags_on : {options : ℕ} {xs : List ℕ} {n count : ℕ} {w : List ℕ} {unused : ℕ} {w' : List ℕ} → bit 5 options ≡ true → FlagsGives xs n count w unused w' → FlagsIf options xs n count w unused w'
flags_on {options} {xs} {n} {count} {w} {unused} {w'} e g =
    record {
      only = g.only;
      tells = λ m q f P t c read.
          ap (λ b. cond b (lines6 m) []) e
          ∙ rows_tell6 P t.splits (subst (λ k. FlagsGives xs n k w unused w') (sym c) g) m (q ∙ sym c) f t refl (λ v h. read v (subst (λ k. v < k) c h));
    }

-- it is off, and the flags are cleared
pub flags_off : {options : ℕ} {xs : List ℕ} {n count : ℕ} {w : List ℕ} {unused : ℕ} {w' : List ℕ} → bit 5 options ≡ false → Only unused count w w' → Filled unused count 0 w' → FlagsIf options xs n count w unused w'
unfolding unused_told
flags_off e o z =
    record {
      only = o;
      tells = λ m q f P t c read.
          ap (λ b. cond b (lines6 m) []) e
          ∙ sym (nothing t.unused (P + t.splits) (λ v h. let l = subst (λ k. v < k) c h in read v l ∙ ap (λ k. eqb k 1) (z.each v l)));
    }
