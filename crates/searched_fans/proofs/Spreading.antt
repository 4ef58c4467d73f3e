-- The search for a group: what is met is of the group, and a face that was gone through has met all that it joins. Assumes nothing.
use mathlib.Core.Path.{◌≡◌, refl, sym, ap, ◌∙◌, subst}
use mathlib.Core.Logic.{◌≢◌}
use mathlib.Core.Bool.{Bool, true, false, ◌&&◌, cond}
use mathlib.Core.List.{List}
use Prim.Native.Nat.{ℕ, zero, suc, ◌+◌, ◌*◌, ◌/◌, ◌%◌, ◌≤◌, ◌<◌}
use native.Mathlib.Omega.{arith}
use native.Mathlib.Decide.{ℕ_discrete}
use borrow.Author.Tests.{eq-eqb}
use lib.Dec.{T, eqb, ltb, eqb→eq}
use lib.Ieee.Bits.{is_true}
use lib.ListN.{length, get_or, set, length-set}
use lib.Seq.{get_or-set_same, get_or-set_other}
use Rattle.rules.specs.Lists.{below, filter, count, has}
use Rattle.rules.specs.Mesh.{corners}
use Rattle.rules.specs.Pass5.{share}
use Rattle.rule_laws.proofs.Tests.{and_elim}
use Rattle.rule_laws.proofs.Lists.{count_below}
use Rattle.rule_laws.proofs.Groups.{group_self}
use Rattle.fan_laws.specs.Opening.{is_in_group}
use Rattle.fan_laws.proofs.Weights.{group_in}
use Rattle.face_words.specs.Words.{stands, view, viewed, place}
use Rattle.splitting.specs.Corners.{joined_at}
use Rattle.std.specs.Option.{MatchOption}
use Rattle.std.specs.Prelude.{Option, Some, None}
use Rattle.searched_fans.specs.Reaching.{state, joins, ThroughAsks, ThroughGives, WaitingGives, ReachAsks}
use Rattle.searched_fans.proofs.Meeting.{Alike, stands_alike, view_alike}
use Rattle.searched_fans.proofs.Grouping.{join_group}

-- ---- fewer pass a stricter test

-- no more
count_no_more : (p q : ℕ → Bool) (n : ℕ) → ((g : ℕ) → g < n → T (p g) → T (q g)) → count p (below n) ≤ count q (below n)
count_no_more p q zero h = unfold below count filter in (omega arith)
count_no_more p q (suc n) h = go (p n) refl (q n) refl (count_no_more p q n (λ g l. h g (omega arith)))
  where
    go : (b : Bool) → p n ≡ b → (c : Bool) → q n ≡ c → count p (below n) ≤ count q (below n) → count p (below (suc n)) ≤ count q (below (suc n))
    go true e true f i = rw (count_below p n, count_below q n, e, f) (omega arith)
    go true e false f i = absurd (subst T f (h n (omega arith) (subst T (sym e) tt)))
    go false e true f i = rw (count_below p n, count_below q n, e, f) (omega arith)
    go false e false f i = rw (count_below p n, count_below q n, e, f) (omega arith)

-- fewer, where one that passed does not
pub count_fewer : (p q : ℕ → Bool) (n i : ℕ) → ((g : ℕ) → g < n → T (p g) → T (q g)) → i < n → T (q i) → p i ≡ false → count p (below n) < count q (below n)
count_fewer p q zero i h hi t e = absurd (omega arith)
count_fewer p q (suc n) i h hi t e = go (ℕ_discrete i n) (λ l. count_fewer p q n i (λ g l. h g (omega arith)) l t e) (count_no_more p q n (λ g l. h g (omega arith)))
  where
    last : (b : Bool) → p n ≡ b → (c : Bool) → q n ≡ c → count p (below n) < count q (below n) → count p (below (suc n)) < count q (below (suc n))
    last true e true f i = rw (count_below p n, count_below q n, e, f) (omega arith)
    last true e false f i = absurd (subst T f (h n (omega arith) (subst T (sym e) tt)))
    last false e true f i = rw (count_below p n, count_below q n, e, f) (omega arith)
    last false e false f i = rw (count_below p n, count_below q n, e, f) (omega arith)

    go : Dec (i ≡ n) → (i < n → count p (below n) < count q (below n)) → count p (below n) ≤ count q (below n) → count p (below (suc n)) < count q (below (suc n))
    go (yes s) r m = rw (count_below p n, count_below q n, sym (ap p s) ∙ e, sym (ap q s) ∙ is_true (q i) t) (omega arith)
    go (no s) r m = last (p n) refl (q n) refl (r (omega arith))

-- the next face: one that waits, or none does
abbrev pub Next : List ℕ → Option ℕ → Type 0
Next w r = MatchOption r ((g : ℕ) → g < length w → state w g ≢ 1) (λ i. (i < length w) × (state w i ≡ 1))

-- as it was looked for
pub next_given : (w : List ℕ) (r : Option ℕ) → WaitingGives w r → Next w r
unfolding state
next_given w None h = h
next_given w (Some i) h = (h.0, h.1)

-- how many faces were not gone through
abbrev pub rest : List ℕ → ℕ
rest w = count (λ g. ltb (state w g) 2) (below (length w))

module _ {xs w₀ : List ℕ} {f v : ℕ} (q : ReachAsks xs w₀ f v) where
  -- the search with the words w
  pub record Spread (w : List ℕ) : Type 0 where
    pub long : length w ≡ length w₀
    pub kept : (g : ℕ) → g < length w₀ → get_or w g 0 ≡ get_or w₀ g 0 + 4 * state w g
    pub low : (g : ℕ) → g < length w₀ → state w g ≤ 2
    pub sound : (g : ℕ) → g < length w₀ → 0 < state w g → T (stands w₀ g) × T (is_in_group (viewed xs w₀) q.id (place w₀ g))
    pub closed :
        (g h : ℕ) → g < length w₀ → h < length w₀ → state w g ≡ 2 → T (stands w₀ h) → T (has v (corners (view xs w₀ h))) → T (share v (view xs w₀ g) (view xs w₀ h))
        → 0 < state w h
    pub started : 0 < state w f

  -- the words when face f waits
  abbrev first : List ℕ
  first = set w₀ f (get_or w₀ f 0 + 4)

  -- its own group has the face
  own_group : T (is_in_group (viewed xs w₀) q.id (place w₀ f))
  own_group = subst (λ k. T (is_in_group (viewed xs w₀) q.id k)) q.own (group_in (viewed xs w₀) q.id q.id (group_self (joined_at (viewed xs w₀)) (3 * length (viewed xs w₀)) q.id q.inside))

  -- the face waits
  pub first_waits : state first f ≡ 1
  unfolding state
  first_waits = rw (get_or-set_same w₀ f (get_or w₀ f 0 + 4) 0 q.here) (omega (arith, q.fresh f q.here))

  -- at first
  pub begin : Spread first
  unfolding state
  begin =
      record {
        long = length-set w₀ f (get_or w₀ f 0 + 4);
        kept = λ g h. go_kept g h (ℕ_discrete g f);
        low = λ g h. go_low g h (ℕ_discrete g f);
        sound = λ g h l. go_sound g h l (ℕ_discrete g f);
        closed = λ g h hg hh e. absurd (go_two g hg e (ℕ_discrete g f));
        started = omega (arith, one);
      }
    where
      fresh : (g : ℕ) → g < length w₀ → get_or w₀ g 0 / 4 % 4 ≡ 0
      fresh g h = q.fresh g h

      here : get_or first f 0 ≡ get_or w₀ f 0 + 4
      here = get_or-set_same w₀ f (get_or w₀ f 0 + 4) 0 q.here

      there : (g : ℕ) → g ≢ f → get_or first g 0 ≡ get_or w₀ g 0
      there g n = get_or-set_other w₀ f g (get_or w₀ f 0 + 4) 0 n

      one : state first f ≡ 1
      one = first_waits

      go_kept : (g : ℕ) → g < length w₀ → Dec (g ≡ f) → get_or first g 0 ≡ get_or w₀ g 0 + 4 * state first g
      go_kept g h (yes e) = rw e (omega (arith, here, one))
      go_kept g h (no n) = rw (there g n) (omega (arith, fresh g h))

      go_low : (g : ℕ) → g < length w₀ → Dec (g ≡ f) → state first g ≤ 2
      go_low g h (yes e) = rw e (omega (arith, one))
      go_low g h (no n) = rw (there g n) (omega (arith, fresh g h))

      go_sound : (g : ℕ) → g < length w₀ → 0 < state first g → Dec (g ≡ f) → T (stands w₀ g) × T (is_in_group (viewed xs w₀) q.id (place w₀ g))
      go_sound g h l (yes e) = subst (λ k. T (stands w₀ k) × T (is_in_group (viewed xs w₀) q.id (place w₀ k))) (sym e) (q.standing, own_group)
      go_sound g h l (no n) = absurd (omega (arith, rw (there g n) at l, fresh g h))

      go_two : (g : ℕ) → g < length w₀ → state first g ≡ 2 → Dec (g ≡ f) → ⊥
      go_two g h e (yes r) = omega (arith, ap (λ k. state first k) r, one)
      go_two g h e (no n) = omega (arith, rw (there g n) at e, fresh g h)

  -- ---- one face more is gone through

  module _ {w : List ℕ} {i : ℕ} (s : Spread w) (hi : i < length w) (waits : state w i ≡ 1) where
    -- it is one of the faces
    inside : i < length w₀
    inside = omega (arith, s.long)

    -- a word shows what it showed at first
    alike : (g : ℕ) → g < length w₀ → Alike (get_or w g 0) (get_or w₀ g 0)
    alike g h = let e = s.kept g h in record { gone = omega arith; turned = omega arith }

    -- what is asked of it
    pub asks : ThroughAsks xs w i
    asks =
        let l = s.long in
        record {
          worded = record { long = omega (arith, q.worded.long); few = omega (arith, q.worded.few) };
          small = λ g h. omega (arith, s.kept g (omega arith), s.low g (omega arith), q.few g (omega arith));
          here = hi;
          waits = waits;
        }

    module _ {w' : List ℕ} (t : ThroughGives xs w i v w') where
      -- the states then
      own_state : state w' i ≡ 2
      unfolding state
      own_state = let e : get_or w i 0 / 4 % 4 ≡ 1 = waits in rw t.own (omega arith)

      -- of another face that it joins
      joined_state : (g : ℕ) → g < length w₀ → g ≢ i → joins xs w v i g ≡ true → (state w' g ≡ 1) × (get_or w' g 0 ≡ get_or w g 0 + 4) × (state w g ≡ 0)
      unfolding state joins
      joined_state g h n e =
          let r : get_or w' g 0 ≡ get_or w g 0 + 4 = t.at g (omega (arith, s.long)) n ∙ ap (λ (b : Bool). cond b (get_or w g 0 + 4) (get_or w g 0)) e in
          let z : get_or w g 0 / 4 % 4 ≡ 0 = eqb→eq (get_or w g 0 / 4 % 4) 0 (and_elim (eqb (get_or w g 0 / 4 % 4) 0) (stands w g && (has v (corners (view xs w g)) && share v (view xs w i) (view xs w g))) (subst T (sym e) tt)).0 in
          (rw r (omega arith), r, z)

      -- and of one that it does not
      other_state : (g : ℕ) → g < length w₀ → g ≢ i → joins xs w v i g ≡ false → (state w' g ≡ state w g) × (get_or w' g 0 ≡ get_or w g 0)
      unfolding state
      other_state g h n e =
          let r : get_or w' g 0 ≡ get_or w g 0 = t.at g (omega (arith, s.long)) n ∙ ap (λ (b : Bool). cond b (get_or w g 0 + 4) (get_or w g 0)) e in
          (ap (λ (y : ℕ). y / 4 % 4) r, r)

      -- the three cases of a face
      cases : (A : ℕ → Type 0) (g : ℕ) → g < length w₀ → (g ≡ i → A g) → (g ≢ i → joins xs w v i g ≡ true → A g) → (g ≢ i → joins xs w v i g ≡ false → A g) → A g
      cases A g h a b c = go (ℕ_discrete g i) (joins xs w v i g) refl
        where
          go : Dec (g ≡ i) → (k : Bool) → joins xs w v i g ≡ k → A g
          go (yes e) k r = a e
          go (no n) true r = b n r
          go (no n) false r = c n r

      -- what was met stays so
      still : (g : ℕ) → g < length w₀ → 0 < state w g → 0 < state w' g
      still g h l =
          cases (λ g. 0 < state w g → 0 < state w' g) g h (λ e l. rw e (omega (arith, own_state))) (λ n e l. omega (arith, (joined_state g h n e).0)) (λ n e l. omega (arith, (other_state g h n e).0)) l

      -- the parts of a joining, as at first
      joins_parts : (g : ℕ) → g < length w₀ → joins xs w v i g ≡ true → T (stands w₀ g) × T (has v (corners (view xs w₀ g))) × T (share v (view xs w₀ i) (view xs w₀ g))
      unfolding joins
      joins_parts g h e =
          let a = and_elim (eqb (state w g) 0) (stands w g && (has v (corners (view xs w g)) && share v (view xs w i) (view xs w g))) (subst T (sym e) tt) in
          let b = and_elim (stands w g) (has v (corners (view xs w g)) && share v (view xs w i) (view xs w g)) a.1 in
          let c = and_elim (has v (corners (view xs w g))) (share v (view xs w i) (view xs w g)) b.1 in
          let k = view_alike xs w w₀ g (alike g h) in
          let m = view_alike xs w w₀ i (alike i inside) in (
            subst T (stands_alike w w₀ g (alike g h)) b.0,
            subst (λ y. T (has v (corners y))) k c.0,
            subst (λ y. T (share v (view xs w₀ i) y)) k (subst (λ y. T (share v y (view xs w g))) m c.1),
          )

      -- a face with these parts that was not met is joined
      parts_join : (g : ℕ) → g < length w₀ → state w g ≡ 0 → T (stands w₀ g) → T (has v (corners (view xs w₀ g))) → T (share v (view xs w₀ i) (view xs w₀ g)) → joins xs w v i g ≡ true
      unfolding joins
      parts_join g h z a b c =
          let k = view_alike xs w w₀ g (alike g h) in
          let m = view_alike xs w w₀ i (alike i inside) in
          rw (eq-eqb (state w g) 0 z, is_true (stands w g) (subst T (sym (stands_alike w w₀ g (alike g h))) a), k, m, is_true (has v (corners (view xs w₀ g))) b, is_true (share v (view xs w₀ i) (view xs w₀ g)) c)

      -- each that it joins was met
      met_by : (g : ℕ) → g < length w₀ → T (stands w₀ g) → T (has v (corners (view xs w₀ g))) → T (share v (view xs w₀ i) (view xs w₀ g)) → 0 < state w' g
      met_by g h a b c = go (ℕ_discrete (state w g) 0)
        where
          go : Dec (state w g ≡ 0) → 0 < state w' g
          go (yes z) =
              let j = parts_join g h z a b c in
              cases (λ g. joins xs w v i g ≡ true → 0 < state w' g) g h (λ e j. rw e (omega (arith, own_state))) (λ n e j. omega (arith, (joined_state g h n e).0)) (λ n e j. absurd (subst T (sym j ∙ e) tt)) j
          go (no n) = still g h (omega arith)

      -- the search then
      pub again : Spread w'
      again =
          let l : length w' ≡ length w₀ = t.long ∙ s.long in
          record {
            long = l;
            kept = λ g h.
                cases (λ g. get_or w g 0 ≡ get_or w₀ g 0 + 4 * state w g → get_or w' g 0 ≡ get_or w₀ g 0 + 4 * state w' g) g h
                (λ e. rw e (λ k. omega (arith, own_state, t.own, waits)))
                (λ n e k. let b = joined_state g h n e in omega (arith, b.0, b.1, b.2))
                (λ n e k. let b = other_state g h n e in omega (arith, b.0, b.1)) (s.kept g h);
            low = λ g h.
                cases (λ g. state w g ≤ 2 → state w' g ≤ 2) g h (λ e k. rw e (omega (arith, own_state))) (λ n e k. omega (arith, (joined_state g h n e).0)) (λ n e k. omega (arith, (other_state g h n e).0)) (s.low g h);
            sound = λ g h p.
                cases (λ g. g < length w₀ → 0 < state w' g → T (stands w₀ g) × T (is_in_group (viewed xs w₀) q.id (place w₀ g))) g h
                (λ e h p. subst (λ k. T (stands w₀ k) × T (is_in_group (viewed xs w₀) q.id (place w₀ k))) (sym e) (s.sound i inside (omega (arith, waits))))
                (λ n e h p.
                let b = joins_parts g h e in
                let c = s.sound i inside (omega (arith, waits)) in
                (b.0, join_group xs w₀ q.id v q.inside q.point i g inside h c.0 b.0 c.1 b.1 b.2))
                (λ n e h p. s.sound g h (omega (arith, (other_state g h n e).0))) h p;
            closed = λ g h hg hh e a b c.
                cases (λ g. g < length w₀ → state w' g ≡ 2 → T (share v (view xs w₀ g) (view xs w₀ h)) → 0 < state w' h) g hg
                (λ r k e c. met_by h hh a b (subst (λ y. T (share v (view xs w₀ y) (view xs w₀ h))) r c))
                (λ n r k e c. absurd (omega (arith, (joined_state g hg n r).0)))
                (λ n r k e c. still h hh (s.closed g h hg hh (sym (other_state g hg n r).0 ∙ e) a b c)) hg e c;
            started = still f q.here s.started;
          }

      -- fewer are left
      pub fewer : rest w' < rest w
      fewer =
          let l : length w' ≡ length w = t.long in
          rw l (count_fewer (λ g. ltb (state w' g) 2) (λ g. ltb (state w g) 2) (length w) i
          (λ g h. stricter g (omega (arith, s.long)))
          hi (rw (waits) tt) (rw own_state refl))
        where
          stricter : (g : ℕ) → g < length w₀ → T (ltb (state w' g) 2) → T (ltb (state w g) 2)
          stricter g h k =
              cases (λ g. T (ltb (state w' g) 2) → T (ltb (state w g) 2)) g h
              (λ e. subst (λ y. T (ltb (state w' y) 2) → T (ltb (state w y) 2)) (sym e) (λ k. rw (waits) tt))
              (λ n e k. rw (joined_state g h n e).2 tt)
              (λ n e k. subst (λ (y : ℕ). T (ltb y 2)) (other_state g h n e).0 k) k
