-- What the search has found when no face waits: those that were gone through are the faces of the group. Assumes nothing.
use mathlib.Core.Path.{◌≡◌, refl, sym, ap, ◌∙◌, subst}
use mathlib.Core.Logic.{◌≢◌}
use mathlib.Core.Bool.{Bool, true, false, ◌&&◌, cond}
use mathlib.Core.List.{List}
use Prim.Native.Nat.{ℕ, ◌+◌, ◌-◌, ◌<◌}
use native.Mathlib.Omega.{arith}
use native.Mathlib.Decide.{ℕ_discrete}
use borrow.Author.Tests.{eq-eqb}
use lib.Dec.{T, eqb, eqb→eq}
use lib.Ieee.Fits.{and_i}
use lib.ListN.{length, get_or}
use Rattle.rules.specs.Lists.{below, filter}
use Rattle.rules.specs.Mesh.{face}
use Rattle.rule_laws.proofs.Tests.{and_elim, both_ways}
use Rattle.rule_laws.proofs.Counting.{count_injective}
use Rattle.rule_laws.proofs.Rising.{all_imp, all_filter, below_all}
use Rattle.splitting.proofs.Agreeing.{filter_agree, on_below}
use Rattle.fan_laws.specs.Sums.{sum_of, field}
use Rattle.fan_laws.specs.Opening.{is_in_group}
use Rattle.fan_laws.proofs.Sums.{sum_agree, sum_map}
use Rattle.face_words.specs.Words.{stands, view, viewed, place}
use Rattle.face_words.proofs.Places.{viewed_face, filter_places}
use Rattle.searched_fans.specs.Reaching.{state, flags_at, CrossAsks, SettleGives, ReachAsks, ReachGives}
use Rattle.searched_fans.proofs.Meeting.{view_alike}
use Rattle.searched_fans.proofs.Grouping.{view_origin, all_of_group}
use Rattle.searched_fans.proofs.Spreading.{Spread}

module _ {xs w₀ : List ℕ} {f v : ℕ} (q : ReachAsks xs w₀ f v) {w : List ℕ} (s : Spread q w) (none : (g : ℕ) → g < length w → state w g ≢ 1) where
  -- a face that was met was gone through
  through : (g : ℕ) → g < length w₀ → 0 < state w g → state w g ≡ 2
  through g h l = go (ℕ_discrete (state w g) 1)
    where
      go : Dec (state w g ≡ 1) → state w g ≡ 2
      go (yes e) = absurd (none g (omega (arith, s.long)) e)
      go (no n) = omega (arith, s.low g h)

  -- face g is of the group
  abbrev member : ℕ → Bool
  member g = stands w₀ g && is_in_group (viewed xs w₀) q.id (place w₀ g)

  -- exactly those were gone through
  found : (g : ℕ) → g < length w₀ → eqb (state w g) 2 ≡ member g
  found g h = both_ways (eqb (state w g) 2) (member g) to from
    where
      to : T (eqb (state w g) 2) → T (member g)
      to t =
          let e = eqb→eq (state w g) 2 t in
          let a = s.sound g h (omega arith) in
          and_i (stands w₀ g) (is_in_group (viewed xs w₀) q.id (place w₀ g)) a.0 a.1

      from : T (member g) → T (eqb (state w g) 2)
      from t =
          let a = and_elim (stands w₀ g) (is_in_group (viewed xs w₀) q.id (place w₀ g)) t in
          let r =
          all_of_group xs w₀ q.id v q.inside q.point (λ g. state w g ≡ 2) f q.here q.standing q.own (through f q.here s.started)
          (λ i g hi hg si sg e b c. through g hg (s.closed i g hi hg e sg b c)) (place w₀ g) a.1 in
          let e : r.0 ≡ g = count_injective (stands w₀) r.0 g r.2 a.0 r.3 in
          rw (sym (ap (state w) e) ∙ r.4) tt

  -- they can be settled
  pub settle_asks : CrossAsks xs w
  settle_asks =
      let l = s.long in
      record {
        worded = record { long = omega (arith, q.worded.long); few = omega (arith, q.worded.few) };
        small = λ g h. omega (arith, s.kept g (omega arith), s.low g (omega arith), q.few g (omega arith));
      }

  -- at the end
  pub done : {w' : List ℕ} {r : ℕ} → SettleGives xs w v w' r → ReachGives q w' r
  done {w'} {r} t =
      let l = s.long in
      record {
        long = t.long ∙ s.long;
        at = λ g h. t.at g (omega arith) ∙ word g h (eqb (state w g) 2) refl;
        bytes =
            t.bytes
            ∙ ap (λ k. sum_of field (filter (λ g. eqb (state w g) 2) (below k))) s.long
            ∙ ap (sum_of field) (filter_agree (λ g. eqb (state w g) 2) member (below (length w₀)) (on_below (λ g. eqb (state w g) 2 ≡ member g) (length w₀) found))
            ∙ sym numbers;
      }
    where
      word : (g : ℕ) → g < length w₀ → (b : Bool) → eqb (state w g) 2 ≡ b → cond (eqb (state w g) 2) (get_or w g 0 - 8 + flags_at (view xs w g) v) (get_or w g 0) ≡ get_or w₀ g 0 + cond (member g) (flags_at (view xs w₀ g) v) 0
      word g h true e =
          let two : state w g ≡ 2 = eqb→eq (state w g) 2 (subst T (sym e) tt) in
          let k = s.kept g h in
          let same : flags_at (view xs w g) v ≡ flags_at (view xs w₀ g) v = ap (λ y. flags_at y v) (view_alike xs w w₀ g (record { gone = omega arith; turned = omega arith })) in
          rw (e, sym (found g h) ∙ e) (omega arith)
      word g h false e =
          let k = s.kept g h in
          let zero-state : state w g ≡ 0 = nothing (ℕ_discrete (state w g) 0) in
          rw (e, sym (found g h) ∙ e) (omega arith)
        where
          nothing : Dec (state w g ≡ 0) → state w g ≡ 0
          nothing (yes z) = z
          nothing (no n) = absurd (subst T (sym (eq-eqb (state w g) 2 (through g h (omega arith))) ∙ e) tt)

      numbers : sum_of (λ i. field (face (viewed xs w₀) i).origin) (filter (is_in_group (viewed xs w₀) q.id) (below (length (viewed xs w₀)))) ≡ sum_of field (filter member (below (length w₀)))
      numbers =
          ap (sum_of (λ i. field (face (viewed xs w₀) i).origin)) (filter_places xs w₀ (is_in_group (viewed xs w₀) q.id))
          ∙ sum_map (λ i. field (face (viewed xs w₀) i).origin) (place w₀) (filter member (below (length w₀)))
          ∙ sum_agree (λ g. field (face (viewed xs w₀) (place w₀ g)).origin) field (filter member (below (length w₀)))
          (all_imp (λ (g : ℕ). (g < length w₀) × T (member g)) (λ g. field (face (viewed xs w₀) (place w₀ g)).origin ≡ field g)
          (λ g b.
          ap field (ap (λ y. y.origin) (viewed_face xs w₀ g b.0 (and_elim (stands w₀ g) (is_in_group (viewed xs w₀) q.id (place w₀ g)) b.1).0) ∙ view_origin xs w₀ g q.worded b.0))
          (filter member (below (length w₀))) (all_filter (λ g. g < length w₀) member (below (length w₀)) (below_all (length w₀))))
