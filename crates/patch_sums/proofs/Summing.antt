-- The loop that adds each face to the record of its patch. Assumes nothing.
use mathlib.Core.Path.{◌≡◌, refl, sym, ap, ◌∙◌}
use mathlib.Core.Logic.{◌⊎◌, inl, inr}
use mathlib.Core.List.{List, [], ◌∷◌, map, map-append}
use Prim.Native.Nat.{ℕ, zero, suc, ◌+◌, ◌*◌, ◌≤◌, ◌<◌}
use native.Mathlib.Nat.{not-suc-le-zero, le_of_suc-le-suc}
use native.Mathlib.Numerals.{add-one}
use native.Mathlib.Omega.{arith}
use native.Mathlib.Decide.{ℕ_discrete}
use borrow.Author.Tests.{ne_eqb, eq-eqb}
use lib.Dec.{eqb}
use lib.ListN.{length, get_or}
use lib.Ieee.{Float, nan}
use Rattle.rows.specs.Region.{OnlyOf}
use Rattle.rows.proofs.Regions.{only_both, only_none, only_more}
use Rattle.rules.specs.Lists.{below, filter, through}
use Rattle.rules.specs.Mesh.{Point, Face, points_of, faces_of, face}
use Rattle.rules.specs.Refusal.{no_patch}
use Rattle.rules.specs.Patches as rule
use Rattle.rule_laws.proofs.Lists.{filter_append, through_append}
use Rattle.rule_laws.proofs.Flat.{length_faces}
use Rattle.patch_sums.specs.Sums.{record_at, patch_to, SumAsks, SumGives, AddAsks, AddGives, BeginGives}
use Rattle.patch_sums.proofs.Seven.{record_kept}

-- each record is that of the faces passed
pub record Summed (points : List Float) (faces labels : List ℕ) (C : ℕ) (xs₁ xs : List Float) (i : ℕ) : Type 0 where
  pub at_most : i ≤ length labels
  pub only : OnlyOf nan 0 (7 * C) xs₁ xs
  pub each : (k : ℕ) → k < C → record_at xs k ≡ patch_to (points_of points) (faces_of faces) labels i k

-- within a list the default does not matter
get_d_any : (xs : List ℕ) (i d e : ℕ) → i < length xs → get_or xs i d ≡ get_or xs i e
get_d_any [] i d e h = absurd (not-suc-le-zero h)
get_d_any (x ∷ xs) zero d e h = refl
get_d_any (x ∷ xs) (suc i) d e h = get_d_any xs i d e (le_of_suc-le-suc h)

module _ (ps : List Point) (fs : List Face) (labels : List ℕ) (i k : ℕ) where
  -- the record after face i, by whether the face is in patch k
  to-suc :
      patch_to ps fs labels (suc i) k
      ≡ through (rule.with_face ps) (patch_to ps fs labels i k) (map (face fs) (filter (λ j. eqb (get_or labels j no_patch) k) (i ∷ [])))
  unfolding below
  to-suc =
      ap (λ l. through (rule.with_face ps) rule.empty (map (face fs) l)) (filter_append (λ j. eqb (get_or labels j no_patch) k) (below i) (i ∷ []))
      ∙ ap (through (rule.with_face ps) rule.empty) (map-append (face fs) (filter (λ j. eqb (get_or labels j no_patch) k) (below i)) (filter (λ j. eqb (get_or labels j no_patch) k) (i ∷ [])))
      ∙ through_append (rule.with_face ps) rule.empty (map (face fs) (filter (λ j. eqb (get_or labels j no_patch) k) (below i))) _

  module _ (h : i < length labels) where
    -- it is
    to_in : get_or labels i 0 ≡ k → patch_to ps fs labels (i + 1) k ≡ rule.with_face ps (patch_to ps fs labels i k) (face fs i)
    unfolding through filter
    to_in e = rw add-one (to-suc ∙ rw (get_d_any labels i no_patch 0 h, eq-eqb (get_or labels i 0) k e))

    -- it is not
    to_out : (get_or labels i 0 ≡ k → ⊥) → patch_to ps fs labels (i + 1) k ≡ patch_to ps fs labels i k
    unfolding through filter
    to_out n = rw add-one (to-suc ∙ rw (get_d_any labels i no_patch 0 h, ne_eqb (get_or labels i 0) k n))

module _ {points : List Float} {faces labels : List ℕ} {xs₀ : List Float} {C : ℕ} (p : SumAsks points faces labels xs₀ C) where
  -- the records are the empty ones
  pub begin : {xs₁ : List Float} → BeginGives xs₀ C xs₁ → Summed points faces labels C xs₁ xs₁ 0
  unfolding through filter below
  begin {xs₁} g = record { at_most = omega arith; only = only_none 0 (7 * C) xs₁; each = λ k h. g.empty k h }

  module _ {xs₁ : List Float} (g : BeginGives xs₀ C xs₁) {xs : List Float} {i : ℕ} (v : Summed points faces labels C xs₁ xs i) (h : i < length labels) where
    module _ (n : get_or labels i 0 ≡ no_patch → ⊥) where
      -- the label is that of a patch
      pub label_in : get_or labels i 0 < C
      label_in = go (p.labelled.known i h)
        where
          go : (get_or labels i 0 ≡ no_patch) ⊎ (get_or labels i 0 < C) → get_or labels i 0 < C
          go (inl e) = absurd (n e)
          go (inr l) = l

      -- the face can be added to its record
      pub add_asks : AddAsks points faces i xs (get_or labels i 0)
      add_asks =
          record {
            fit = omega (arith, label_in, p.fit, g.only.long, v.only.long);
            there = omega (arith, p.as_many);
            inside = p.inside;
          }

      -- it is
      pub adds : {xs' : List Float} → AddGives points faces i xs (get_or labels i 0) xs' → Summed points faces labels C xs₁ xs' (i + 1)
      adds {xs'} a =
          record {
            at_most = omega arith;
            only = only_both v.only (only_more (omega arith) (omega (arith, label_in)) a.only);
            each = λ k l. go k l (ℕ_discrete (get_or labels i 0) k);
          }
        where
          go : (k : ℕ) → k < C → Dec (get_or labels i 0 ≡ k) → record_at xs' k ≡ patch_to (points_of points) (faces_of faces) labels (i + 1) k
          go k l (yes e) =
              rw e at a.added
              ∙ ap (λ r. rule.with_face (points_of points) r (face (faces_of faces) i)) (v.each k l)
              ∙ sym (to_in (points_of points) (faces_of faces) labels i k h e)
          go k l (no e) = record_kept (get_or labels i 0) k a.only (λ q. e (sym q)) ∙ v.each k l ∙ sym (to_out (points_of points) (faces_of faces) labels i k h e)

    -- a face in no patch: C is below the no-patch value
    pub skips : get_or labels i 0 ≡ no_patch → Summed points faces labels C xs₁ xs (i + 1)
    skips e =
        record {
          at_most = omega arith;
          only = v.only;
          each = λ k l. v.each k l ∙ sym (to_out (points_of points) (faces_of faces) labels i k h (omega (arith, p.few)));
        }

  -- all faces are added
  pub done : {xs₁ xs : List Float} {i : ℕ} → BeginGives xs₀ C xs₁ → Summed points faces labels C xs₁ xs i → length labels ≤ i → SumGives points faces labels xs₀ C xs
  unfolding rule.patch
  done {xs₁} {xs} {i} g v h =
      let e : i ≡ length (faces_of faces) = omega (arith, v.at_most, p.as_many, length_faces faces) in
      record { only = only_both g.only v.only; summed = λ k l. v.each k l ∙ ap (λ n. patch_to (points_of points) (faces_of faces) labels n k) e }
