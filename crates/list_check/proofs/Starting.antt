-- Rows of zeros say what stands before the first line: the input. Assumes nothing.
use mathlib.Core.Path.{◌≡◌, refl, sym, ap, ◌∙◌, subst}
use mathlib.Core.Bool.{Bool, true, false, ◌&&◌, ◌||◌}
use mathlib.Core.Logic.{◌⊎◌, inl, inr}
use mathlib.Core.List.{List}
use Prim.Native.Nat.{ℕ, ◌+◌, ◌*◌, ◌/◌, ◌%◌, ◌^◌, ◌<◌}
use native.Mathlib.Omega.{arith}
use borrow.Author.Tests.{lt-ltb, eq-eqb}
use lib.Dec.{T, eqb, ltb, ltb→lt, eqb→eq}
use lib.Ieee.Fits.{and_i}
use lib.ListN.{length, get_or}
use lib.Pow.{shr_le}
use Rattle.rules.specs.Lists.{any, has}
use Rattle.rules.specs.Mesh.{Point, Face, face, faces_of, corners}
use Rattle.rules.specs.Applying.{bench_of, present, present_with}
use Rattle.rule_laws.proofs.Rising.{All, all_from}
use Rattle.rule_laws.proofs.Members.{any_intro, any_mem, mem_at, mem_index}
use Rattle.rule_laws.proofs.Tests.{and_elim, both_ways}
use Rattle.rule_laws.proofs.Flat.{face_in, length_faces, numbered}
use Rattle.rule_laws.proofs.Once.{CornersBelow}
use Rattle.point_bits.specs.Bits.{bit}
use Rattle.face_marks.specs.Marks.{here, free, keeps}
use Rattle.list_check.specs.Standing.{last_of, Standing}
use Rattle.list_check.specs.Steps.{Begins}
use Rattle.list_check.proofs.Anys.{any_same, and_true}

-- no face
abbrev no_face : Face
no_face = record { a = 0; b = 0; c = 0; origin = 0 }

-- a face by its number
by_number : (fs : List Face) (i : ℕ) → get_or fs i no_face ≡ face fs i
unfolding face
by_number fs i = refl

-- a test of one face
any_origin : (xs : List ℕ) (p : Face → Bool) (f : ℕ) → any (λ g. eqb f g.origin && p g) (faces_of xs) ≡ (ltb f (length xs / 3) && p (face (faces_of xs) f))
any_origin xs p f = both_ways _ _ there back
  where
    there : T (any (λ g. eqb f g.origin && p g) (faces_of xs)) → T (ltb f (length xs / 3) && p (face (faces_of xs) f))
    there t =
        let w = any_mem (λ g. eqb f g.origin && p g) (faces_of xs) t in
        let q = and_elim (eqb f w.0.origin) (p w.0) w.2 in
        let i = mem_index no_face w.0 (faces_of xs) w.1 in
        let o : face (faces_of xs) i.0 ≡ w.0 = sym (by_number (faces_of xs) i.0) ∙ i.2 in
        let e : f ≡ i.0 = eqb→eq f w.0.origin q.0 ∙ ap (λ (g : Face). g.origin) (sym o) ∙ numbered xs i.0 i.1 in
        and_i (ltb f (length xs / 3)) (p (face (faces_of xs) f))
        (subst T (sym (lt-ltb f (length xs / 3) (omega (arith, i.1, length_faces xs)))) tt)
        (subst (λ (g : Face). T (p g)) (sym (ap (face (faces_of xs)) e ∙ o)) q.1)

    back : T (ltb f (length xs / 3) && p (face (faces_of xs) f)) → T (any (λ g. eqb f g.origin && p g) (faces_of xs))
    back t =
        let q = and_elim (ltb f (length xs / 3)) (p (face (faces_of xs) f)) t in
        let l : f < length (faces_of xs) = omega (arith, ltb→lt f (length xs / 3) q.0, length_faces xs) in
        any_intro (λ g. eqb f g.origin && p g) (get_or (faces_of xs) f no_face) (faces_of xs) (mem_at (faces_of xs) f no_face l)
        (subst (λ (g : Face). T (eqb f g.origin && p g)) (sym (by_number (faces_of xs) f)) (and_i (eqb f (face (faces_of xs) f).origin) (p (face (faces_of xs) f)) (subst T (sym (eq-eqb f (face (faces_of xs) f).origin (sym (numbered xs f l)))) tt) q.1))

-- what holds of each face by its place
pub all_faces : (Q : Face → Type 0) (xs : List ℕ) → ((i : ℕ) → i < length xs / 3 → Q (face (faces_of xs) i)) → All Q (faces_of xs)
all_faces Q xs h = all_from Q no_face (faces_of xs) (λ k l. subst Q (sym (by_number (faces_of xs) k)) (h k (omega (arith, length_faces xs))))

module _ {P : ℕ} {xs m u : List ℕ} (q : Begins P xs m u) (ps : List Point) (n : length ps ≡ P) where
  -- every face is there
  here_all : (f : ℕ) → here m f ≡ true
  unfolding here
  here_all f = rw (q.no_marks f) refl

  -- a corner is free
  free_all : (unit v x : ℕ) → (unit ≡ 2) ⊎ ((unit ≡ 4) ⊎ (unit ≡ 8)) → free 0 unit v x ≡ eqb v x
  unfolding free
  free_all unit v x (inl e) = rw e (and_true (eqb v x))
  free_all unit v x (inr (inl e)) = rw e (and_true (eqb v x))
  free_all unit v x (inr (inr e)) = rw e (and_true (eqb v x))

  -- and has its corners
  keeps_all : (f v : ℕ) → f < length xs / 3 → has v (corners (face (faces_of xs) f)) ≡ keeps xs m f v
  unfolding keeps has any
  keeps_all f v l =
      rw (face_in xs f l, q.no_marks f, free_all 2 v (get_or xs (3 * f) 0) (inl refl), free_all 4 v (get_or xs (3 * f + 1) 0) (inr (inl refl)), free_all 8 v (get_or xs (3 * f + 2) 0) (inr (inr refl)))
      (end (eqb v (get_or xs (3 * f) 0)) (eqb v (get_or xs (3 * f + 1) 0)) (eqb v (get_or xs (3 * f + 2) 0)))
    where
      end : (a b c : Bool) → (a || (b || (c || false))) ≡ (a || (b || c))
      end true b c = refl
      end false true c = refl
      end false false true = refl
      end false false false = refl

  -- no bit is set
  bit_none : (v : ℕ) → bit u v ≡ false
  unfolding bit
  bit_none v =
      let z : 0 / 2 ^ (v % 32) ≡ 0 = omega (arith, shr_le 0 (v % 32)) in
      rw (q.no_bits (v / 32), z) refl

  start_here : (f : ℕ) → present (bench_of ps (faces_of xs)) f ≡ (ltb f (length xs / 3) && here m f)
  unfolding present bench_of
  start_here f =
      any_same (λ g. eqb f g.origin && true) (λ g. eqb f g.origin) (λ g. sym (and_true (eqb f g.origin))) (faces_of xs)
      ∙ any_origin xs (λ g. true) f
      ∙ ap (λ (b : Bool). ltb f (length xs / 3) && b) (sym (here_all f))

  start_with : (v f : ℕ) → present_with (bench_of ps (faces_of xs)) v f ≡ ((ltb f (length xs / 3) && here m f) && keeps xs m f v)
  unfolding present_with bench_of
  start_with v f =
      any_origin xs (λ g. has v (corners g)) f
      ∙ ap (λ (b : Bool). b && has v (corners (face (faces_of xs) f))) (sym (and_true (ltb f (length xs / 3))) ∙ ap (λ (b : Bool). ltb f (length xs / 3) && b) (sym (here_all f)))
      ∙ go (ltb f (length xs / 3)) refl
    where
      go : (t : Bool) → ltb f (length xs / 3) ≡ t → ((ltb f (length xs / 3) && here m f) && has v (corners (face (faces_of xs) f))) ≡ ((ltb f (length xs / 3) && here m f) && keeps xs m f v)
      go true e = ap (λ (b : Bool). (ltb f (length xs / 3) && here m f) && b) (keeps_all f v (ltb→lt f (length xs / 3) (subst T (sym e) tt)))
      go false e = rw e refl

  -- the input
  pub standing_begin : Standing P xs m u 0 0 0 0 (bench_of ps (faces_of xs))
  unfolding bench_of
  standing_begin =
      record {
        stands = record {
          small = record { each = λ f. rw (q.no_marks f) (omega arith) };
          points = omega arith;
          origins = all_faces (λ g. g.origin < length xs / 3) xs (λ i l. omega (arith, numbered xs i (omega (arith, length_faces xs))));
          inside = all_faces (CornersBelow (length ps)) xs (λ i l. rw (face_in xs i l, n) (below (3 * i) (omega arith), below (3 * i + 1) (omega arith), below (3 * i + 2) (omega arith)));
          here_is = start_here;
          with_is = λ v f l. start_with v f;
          old_clear = λ v l. bit_none v;
          far_clear = λ v l. bit_none v;
          new_used = λ v p l. absurd (omega arith);
        };
        last = unfold last_of in refl;
        splits = refl;
        few = omega arith;
        section = omega arith;
        early = λ h. refl;
        alone = λ h. refl;
        low = λ h l. absurd (omega arith);
      }
    where
      below : (j : ℕ) → j < length xs → get_or xs j 0 < P
      below j l = q.rows.input.below j l
