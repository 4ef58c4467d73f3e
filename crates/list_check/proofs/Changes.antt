-- What the kinds of lines make of the bench and of the rows. Assumes nothing.
use mathlib.Core.Path.{◌≡◌, refl, sym, ap, ◌∙◌}
use mathlib.Core.Bool.{Bool, true, false, not, cond, ◌&&◌, ◌||◌}
use mathlib.Core.List.{List, [], ◌∷◌}
use Prim.Native.Nat.{ℕ, suc, ◌+◌, ◌/◌, ◌%◌, ◌≤◌, ◌<◌}
use native.Mathlib.Decide.{ℕ_discrete}
use native.Mathlib.Omega.{arith}
use borrow.Author.Tests.{eq-eqb, ne_eqb}
use lib.Dec.{T, eqb, ltb, eqb→eq}
use lib.Ieee.Bits.{is_true}
use lib.ListN.{length, get_or, set, length-append}
use lib.Seq.{get_or-set_same, get_or-set_other}
use Rattle.rules.specs.Lists.{any, all, has, filter}
use Rattle.rules.specs.Mesh.{Face, corners, exchanged, renamed}
use Rattle.rules.specs.Pass6.{used}
use Rattle.rules.specs.Mending.{Reason, dropped_face, exchange, split_point}
use Rattle.rules.specs.Applying.{Bench, present, present_with, change}
use Rattle.rule_laws.proofs.Rising.{All, all_imp, all_map, all_filter}
use Rattle.rule_laws.proofs.Members.{any_intro, any_mem, all_elim}
use Rattle.rule_laws.proofs.Tests.{and_elim}
use Rattle.rule_laws.proofs.Once.{Inside, CornersBelow}
use Rattle.point_bits.specs.Bits.{bit}
use Rattle.face_marks.specs.Marks.{here, keeps, Small, TakeAllGives}
use Rattle.list_check.specs.Standing.{Stands, names_one}
use Rattle.list_check.proofs.Anys.{any_filter, any_when, any_same, any_map, and_true, and_false, at_number, has_exchanged, has_renamed, has_none}

-- what a filter leaves keeps every property
all_kept : (Q : Face → Type 0) (p : Face → Bool) (fs : List Face) → All Q fs → All Q (filter p fs)
all_kept Q p fs h = all_imp (λ x. Q x × T (p x)) Q (λ x q. q.0) (filter p fs) (all_filter Q p fs h)

-- ---- a dropped face

-- the byte 1 says that a face is gone
module _ (m : List ℕ) (f : ℕ) (h : f < length m) where
  here_dropped : (g : ℕ) → here (set m f 1) g ≡ (here m g && not (eqb f g))
  unfolding here
  here_dropped g = go (ℕ_discrete f g)
    where
      go : Dec (f ≡ g) → eqb (get_or (set m f 1) g 0 % 2) 0 ≡ (eqb (get_or m g 0 % 2) 0 && not (eqb f g))
      go (yes e) = rw (eq-eqb f g e, ← e, get_or-set_same m f 1 0 h) (sym (and_false (eqb (get_or m f 0 % 2) 0)))
      go (no n) = rw (ne_eqb f g n, get_or-set_other m f g 1 0 (λ e. n (sym e))) (sym (and_true (eqb (get_or m g 0 % 2) 0)))

  pub small_dropped : Small m → Small (set m f 1)
  small_dropped s = record { each = λ g. go g (ℕ_discrete g f) }
    where
      go : (g : ℕ) → Dec (g ≡ f) → get_or (set m f 1) g 0 < 16
      go g (yes e) = rw (e, get_or-set_same m f 1 0 h) (omega arith)
      go g (no n) = rw (get_or-set_other m f g 1 0 n) (s.each g)

  with_dropped : (xs : List ℕ) (v g : ℕ) (t : Bool) → ((t && here (set m f 1) g) && keeps xs (set m f 1) g v) ≡ (((t && here m g) && keeps xs m g v) && not (eqb f g))
  with_dropped xs v g t = ap (λ (b : Bool). (t && b) && keeps xs (set m f 1) g v) (here_dropped g) ∙ go (ℕ_discrete f g)
    where
      go : Dec (f ≡ g) → ((t && (here m g && not (eqb f g))) && keeps xs (set m f 1) g v) ≡ (((t && here m g) && keeps xs m g v) && not (eqb f g))
      go (yes e) = rw (eq-eqb f g e, and_false (here m g), and_false t) (sym (and_false ((t && here m g) && keeps xs m g v)))
      go (no n) =
          let k : keeps xs (set m f 1) g v ≡ keeps xs m g v = unfold keeps in (rw (get_or-set_other m f g 1 0 (λ e. n (sym e))) refl) in
          rw (ne_eqb f g n, k, and_true (here m g)) (sym (and_true ((t && here m g) && keeps xs m g v)))

-- a face that is not f
not_f : (f g o : ℕ) (r : Bool) → (not (eqb f o) && (eqb g o && r)) ≡ ((eqb g o && r) && not (eqb f g))
not_f f g o r = turn (not (eqb f o)) (eqb g o && r) ∙ at_number g o (λ z. not (eqb f z)) r
  where
    turn : (a b : Bool) → (a && b) ≡ (b && a)
    turn true true = refl
    turn true false = refl
    turn false true = refl
    turn false false = refl

module _ {P : ℕ} {xs m u : List ℕ} {b : Bench} (s : Stands P xs m u b) (f : ℕ) (h : f < length m) (why : Reason) (last : List ℕ) where
  dropped_present : (g : ℕ) → present (change b (dropped_face f why) last) g ≡ (present b g && not (eqb f g))
  unfolding present change
  dropped_present g =
      any_filter (λ x. eqb g x.origin) (λ x. not (eqb f x.origin)) b.faces
      ∙ any_when (not (eqb f g)) (λ x. eqb g x.origin) (λ x. not (eqb f x.origin) && eqb g x.origin) (λ x. one x.origin) b.faces
    where
      one : (o : ℕ) → (not (eqb f o) && eqb g o) ≡ (eqb g o && not (eqb f g))
      one o =
          ap (λ (t : Bool). not (eqb f o) && t) (sym (and_true (eqb g o)))
          ∙ not_f f g o true
          ∙ ap (λ (t : Bool). t && not (eqb f g)) (and_true (eqb g o))

  dropped_with : (v g : ℕ) → present_with (change b (dropped_face f why) last) v g ≡ (present_with b v g && not (eqb f g))
  unfolding present_with change
  dropped_with v g =
      any_filter (λ x. eqb g x.origin && has v (corners x)) (λ x. not (eqb f x.origin)) b.faces
      ∙ any_when (not (eqb f g)) (λ x. eqb g x.origin && has v (corners x)) (λ x. not (eqb f x.origin) && (eqb g x.origin && has v (corners x))) (λ x. not_f f g x.origin (has v (corners x))) b.faces

  -- before any point was split off
  pub stands_dropped : b.splits ≡ 0 → Stands P xs (set m f 1) u (change b (dropped_face f why) last)
  unfolding change
  stands_dropped z =
      let c = s.points in
      record {
        small = small_dropped m f h s.small;
        points = s.points;
        origins = all_kept (λ x. x.origin < length xs / 3) (λ x. not (eqb f x.origin)) b.faces s.origins;
        inside = all_kept (CornersBelow (length b.points)) (λ x. not (eqb f x.origin)) b.faces s.inside;
        here_is = λ g. dropped_present g ∙ ap (λ (t : Bool). t && not (eqb f g)) (s.here_is g) ∙ assoc (ltb g (length xs / 3)) (here m g) (not (eqb f g)) ∙ ap (λ (t : Bool). ltb g (length xs / 3) && t) (sym (here_dropped m f h g));
        with_is = λ v g l. dropped_with v g ∙ ap (λ (t : Bool). t && not (eqb f g)) (s.with_is v g l) ∙ sym (with_dropped m f h xs v g (ltb g (length xs / 3)));
        old_clear = s.old_clear;
        far_clear = s.far_clear;
        new_used = λ v p l. absurd (omega arith);
      }
    where
      assoc : (a b c : Bool) → ((a && b) && c) ≡ (a && (b && c))
      assoc true b c = refl
      assoc false b c = refl

-- ---- an exchange

-- a face that may be exchanged
abbrev turned : ℕ → Face → Face
turned f g = cond (eqb f g.origin) (exchanged g) g

module _ (f : ℕ) (g : Face) where
  turned_origin : (turned f g).origin ≡ g.origin
  turned_origin = go (eqb f g.origin)
    where
      go : (t : Bool) → (cond t (exchanged g) g).origin ≡ g.origin
      go true = unfold exchanged in refl
      go false = refl

  turned_has : (v : ℕ) → has v (corners (turned f g)) ≡ has v (corners g)
  turned_has v = go (eqb f g.origin)
    where
      go : (t : Bool) → has v (corners (cond t (exchanged g) g)) ≡ has v (corners g)
      go true = has_exchanged v g
      go false = refl

  turned_inside : (n : ℕ) → CornersBelow n g → CornersBelow n (turned f g)
  turned_inside n c = go (eqb f g.origin)
    where
      go : (t : Bool) → CornersBelow n (cond t (exchanged g) g)
      go true = unfold exchanged in (c.0, c.2, c.1)
      go false = c

module _ {P : ℕ} {xs m u : List ℕ} {b : Bench} (s : Stands P xs m u b) (f : ℕ) (last : List ℕ) where
  exchanged_present : (g : ℕ) → present (change b (exchange f) last) g ≡ present b g
  unfolding present change
  exchanged_present g =
      any_map (λ x. eqb g x.origin) (turned f) b.faces
      ∙ any_same (λ x. eqb g x.origin) (λ x. eqb g (turned f x).origin) (λ x. ap (eqb g) (turned_origin f x)) b.faces

  exchanged_with : (v g : ℕ) → present_with (change b (exchange f) last) v g ≡ present_with b v g
  unfolding present_with change
  exchanged_with v g =
      any_map (λ x. eqb g x.origin && has v (corners x)) (turned f) b.faces
      ∙ any_same (λ x. eqb g x.origin && has v (corners x)) (λ x. eqb g (turned f x).origin && has v (corners (turned f x))) (λ x. rw (turned_origin f x, turned_has f x v) refl) b.faces

  pub stands_exchanged : b.splits ≡ 0 → Stands P xs m u (change b (exchange f) last)
  unfolding change
  stands_exchanged z =
      let c = s.points in
      record {
        small = s.small;
        points = s.points;
        origins = all_map (λ x. x.origin < length xs / 3) (turned f) b.faces (all_imp (λ x. x.origin < length xs / 3) (λ x. (turned f x).origin < length xs / 3) (λ x q. rw (turned_origin f x) q) b.faces s.origins);
        inside = all_map (CornersBelow (length b.points)) (turned f) b.faces (all_imp (CornersBelow (length b.points)) (λ x. CornersBelow (length b.points) (turned f x)) (λ x q. turned_inside f x (length b.points) q) b.faces s.inside);
        here_is = λ g. exchanged_present g ∙ s.here_is g;
        with_is = λ v g l. exchanged_with v g ∙ s.with_is v g l;
        old_clear = s.old_clear;
        far_clear = s.far_clear;
        new_used = λ v p l. absurd (omega arith);
      }

-- ---- a split

-- points behind all corners are unused
used_none : (n v : ℕ) (fs : List Face) → n ≤ v → Inside n fs → used fs v ≡ false
unfolding used any
used_none n v [] h i = refl
used_none n v (g ∷ fs) h i =
    rw (has_none v g (omega (arith, i.0.0)) (omega (arith, i.0.1)) (omega (arith, i.0.2)), used_none n v fs h i.1) refl

-- the old point's new number
abbrev instead : ℕ → ℕ → ℕ → ℕ
instead old new x = cond (eqb x old) new x

-- a face that may take it
abbrev taker : ℕ → ℕ → List ℕ → Face → Face
taker old new fs g = cond (has g.origin fs) (renamed (instead old new) g) g

module _ (old new : ℕ) where
  -- a point of the input that is not the new one
  instead_old : (v x : ℕ) → (v ≡ new → ⊥) → eqb v (instead old new x) ≡ (eqb v x && not (eqb v old))
  instead_old v x n = go (ℕ_discrete x old) (ℕ_discrete v x)
    where
      clash : (t : Bool) → false ≡ (t && not t)
      clash true = refl
      clash false = refl

      go : Dec (x ≡ old) → Dec (v ≡ x) → eqb v (cond (eqb x old) new x) ≡ (eqb v x && not (eqb v old))
      go (yes e) d = rw (eq-eqb x old e, e, ne_eqb v new n) (clash (eqb v old))
      go (no q) (yes d) = rw (ne_eqb x old q, d, eq-eqb x x refl, ne_eqb x old q) refl
      go (no q) (no d) = rw (ne_eqb x old q, ne_eqb v x d) refl

  -- one that is neither
  instead_other : (v x : ℕ) → (v ≡ new → ⊥) → (v ≡ old → ⊥) → eqb v (instead old new x) ≡ (eqb v x && true)
  instead_other v x n o = instead_old v x n ∙ rw (ne_eqb v old o) refl

  -- a corner that is the old one is the new one
  instead_new : (x : ℕ) → T (eqb old x) → T (eqb new (instead old new x))
  instead_new x t =
      let e : old ≡ x = eqb→eq old x t in
      rw (eq-eqb x old (sym e), eq-eqb new new refl) tt

  has_new : (g : Face) → T (has old (corners g)) → T (has new (corners (renamed (instead old new) g)))
  unfolding has any renamed
  has_new g t = three (eqb old g.a) (eqb old g.b) (eqb old g.c) (eqb new (instead old new g.a)) (eqb new (instead old new g.b)) (eqb new (instead old new g.c)) (instead_new g.a) (instead_new g.b) (instead_new g.c) t
    where
      three : (a b c x y z : Bool) → (T a → T x) → (T b → T y) → (T c → T z) → T (a || (b || (c || false))) → T (x || (y || (z || false)))
      three a b c true y z p q r t = tt
      three a b c false true z p q r t = tt
      three a b c false false true p q r t = tt
      three true b c false false false p q r t = p t
      three false true c false false false p q r t = q t
      three false false true false false false p q r t = r t
      three false false false false false false p q r t = t

  module _ (fs : List ℕ) (g : Face) where
    taker_origin : (taker old new fs g).origin ≡ g.origin
    taker_origin = go (has g.origin fs)
      where
        go : (t : Bool) → (cond t (renamed (instead old new) g) g).origin ≡ g.origin
        go true = unfold renamed in refl
        go false = refl

    taker_has : (v : ℕ) → (v ≡ new → ⊥) → has v (corners (taker old new fs g)) ≡ (has v (corners g) && not (has g.origin fs && eqb v old))
    taker_has v n = go (has g.origin fs)
      where
        go : (t : Bool) → has v (corners (cond t (renamed (instead old new) g) g)) ≡ (has v (corners g) && not (t && eqb v old))
        go true = has_renamed v (instead old new) (not (eqb v old)) (λ x. instead_old v x n) g
        go false = sym (and_true (has v (corners g)))

    taker_other : (v : ℕ) → (v ≡ new → ⊥) → (v ≡ old → ⊥) → has v (corners (taker old new fs g)) ≡ has v (corners g)
    taker_other v n o = taker_has v n ∙ rw (ne_eqb v old o) (none (has g.origin fs))
      where
        none : (t : Bool) → (has v (corners g) && not (t && false)) ≡ has v (corners g)
        none true = and_true (has v (corners g))
        none false = and_true (has v (corners g))

    taker_inside : (n : ℕ) → new ≡ n → CornersBelow n g → CornersBelow (suc n) (taker old new fs g)
    taker_inside n e c = go (has g.origin fs)
      where
        one : (x : ℕ) → x < n → instead old new x < suc n
        one x l = pick (eqb x old)
          where
            pick : (t : Bool) → cond t new x < suc n
            pick true = omega arith
            pick false = omega arith

        go : (t : Bool) → CornersBelow (suc n) (cond t (renamed (instead old new) g) g)
        go true = unfold renamed in (one g.a c.0, one g.b c.1, one g.c c.2)
        go false = (omega (arith, c.0), omega (arith, c.1), omega (arith, c.2))

module _ {P : ℕ} {xs m u : List ℕ} {b : Bench} (s : Stands P xs m u b) (old new : ℕ) (fs last : List ℕ) (lo : old < P) (nw : new ≡ length b.points) where
  -- after the split
  abbrev after : Bench
  after = change b (split_point old new fs) last

  split_present : (g : ℕ) → present after g ≡ present b g
  unfolding present change
  split_present g =
      any_map (λ x. eqb g x.origin) (taker old new fs) b.faces
      ∙ any_same (λ x. eqb g x.origin) (λ x. eqb g (taker old new fs x).origin) (λ x. ap (eqb g) (taker_origin old new fs x)) b.faces

  split_with : (v g : ℕ) → v < P → present_with after v g ≡ (present_with b v g && not (has g fs && eqb v old))
  unfolding present_with change
  split_with v g l =
      any_map (λ x. eqb g x.origin && has v (corners x)) (taker old new fs) b.faces
      ∙ any_when (not (has g fs && eqb v old)) (λ x. eqb g x.origin && has v (corners x)) (λ x. eqb g (taker old new fs x).origin && has v (corners (taker old new fs x))) one b.faces
    where
      assoc : (a b c : Bool) → (a && (b && c)) ≡ ((a && b) && c)
      assoc true b c = refl
      assoc false b c = refl

      one : (x : Face) → (eqb g (taker old new fs x).origin && has v (corners (taker old new fs x))) ≡ ((eqb g x.origin && has v (corners x)) && not (has g fs && eqb v old))
      one x =
          let c = s.points in
          rw (taker_origin old new fs x, taker_has old new fs x v (λ e. absurd (omega arith)))
          (assoc (eqb g x.origin) (has v (corners x)) (not (has x.origin fs && eqb v old))
          ∙ at_number g x.origin (λ o. not (has o fs && eqb v old)) (has v (corners x)))

  -- other new points
  split_used : (v : ℕ) → P ≤ v → (v ≡ new → ⊥) → used after.faces v ≡ used b.faces v
  unfolding used change
  split_used v p n =
      any_map (λ x. has v (corners x)) (taker old new fs) b.faces
      ∙ any_same (λ x. has v (corners x)) (λ x. has v (corners (taker old new fs x))) (λ x. taker_other old new fs x v n (λ e. absurd (omega arith))) b.faces

  -- the new point is unused where no face is named
  split_none : fs ≡ [] → used after.faces new ≡ false
  unfolding used change
  split_none e =
      any_map (λ x. has new (corners x)) (taker old new fs) b.faces
      ∙ any_same (λ x. has new (corners x)) (λ x. has new (corners (taker old new fs x))) same b.faces
      ∙ used_none (length b.points) new b.faces (omega arith) s.inside
    where
      no_name : (o : ℕ) → has o fs ≡ false
      no_name o = rw e (unfold has any in refl)

      same : (x : Face) → has new (corners (taker old new fs x)) ≡ has new (corners x)
      same x = rw (no_name x.origin) refl

  -- and used where one is
  split_one : (g : ℕ) (gs : List ℕ) → fs ≡ g ∷ gs → T (present_with b old g) → used after.faces new ≡ true
  unfolding used change present_with
  split_one g gs e t =
      let w = any_mem (λ x. eqb g x.origin && has old (corners x)) b.faces t in
      let q = and_elim (eqb g w.0.origin) (has old (corners w.0)) w.2 in
      any_map (λ x. has new (corners x)) (taker old new fs) b.faces
      ∙ is_true _ (any_intro (λ x. has new (corners (taker old new fs x))) w.0 b.faces w.1 (taken w.0 (eqb→eq g w.0.origin q.0) q.1))
    where
      named : has g fs ≡ true
      named = rw e (unfold has any in (rw (eq-eqb g g refl) refl))

      taken : (x : Face) → g ≡ x.origin → T (has old (corners x)) → T (has new (corners (taker old new fs x)))
      taken x o h = let n : has x.origin fs ≡ true = rw (← o) named in rw n (has_new old new x h)

  -- either way
  split_new : T (all (present_with b old) fs) → used after.faces new ≡ names_one fs
  split_new t = go fs refl t
    where
      go : (gs : List ℕ) → fs ≡ gs → T (all (present_with b old) gs) → used after.faces new ≡ names_one gs
      go [] e t = split_none e ∙ (unfold names_one in refl)
      go (g ∷ gs) e t = split_one g gs e (all_elim (present_with b old) (g ∷ gs) t).0 ∙ (unfold names_one in refl)

  -- the rows after it
  pub stands_split : T (all (present_with b old) fs) → {m' u' : List ℕ} → TakeAllGives xs m fs old m' → ((v : ℕ) → bit u' v ≡ ((eqb v new && names_one fs) || bit u v)) → Stands P xs m' u' after
  stands_split t {m'} {u'} g h =
      record {
        small = g.small;
        points = long;
        origins = unfold change in (all_map (λ x. x.origin < length xs / 3) (taker old new fs) b.faces (all_imp (λ x. x.origin < length xs / 3) (λ x. (taker old new fs x).origin < length xs / 3) (λ x q. rw (taker_origin old new fs x) q) b.faces s.origins));
        inside = rw more (unfold change in (all_map (CornersBelow (suc (length b.points))) (taker old new fs) b.faces (all_imp (CornersBelow (length b.points)) (λ x. CornersBelow (suc (length b.points)) (taker old new fs x)) (λ x q. taker_inside old new fs x (length b.points) nw q) b.faces s.inside)));
        here_is = λ f. split_present f ∙ s.here_is f ∙ ap (λ (z : Bool). ltb f (length xs / 3) && z) (sym (g.same_here f));
        with_is = λ v f l. split_with v f l ∙ rw (s.with_is v f l, g.same_here f, g.told f v) (assoc (ltb f (length xs / 3) && here m f) (keeps xs m f v) (not (has f fs && eqb v old)));
        old_clear = λ v l. h v ∙ rw (ne_eqb v new (λ e. absurd (omega (arith, s.points))), s.old_clear v l) refl;
        far_clear = λ v l. let l' : suc (length b.points) ≤ v = rw more at l in h v ∙ rw (ne_eqb v new (λ e. absurd (omega arith)), s.far_clear v (omega arith)) refl;
        new_used = λ v p l. let l' : v < suc (length b.points) = rw more at l in by_new v p l' (ℕ_discrete v new);
      }
    where
      assoc : (a b c : Bool) → ((a && b) && c) ≡ (a && (b && c))
      assoc true b c = refl
      assoc false b c = refl

      more : length after.points ≡ suc (length b.points)
      more = unfold change in (simp length-append (omega arith))

      split_more : after.splits ≡ suc b.splits
      split_more = unfold change in refl

      long : length after.points ≡ P + after.splits
      long = omega (arith, more, split_more, s.points)

      or_clear : (a : Bool) → (a || false) ≡ a
      or_clear true = refl
      or_clear false = refl

      by_new : (v : ℕ) → P ≤ v → v < suc (length b.points) → Dec (v ≡ new) → bit u' v ≡ used after.faces v
      by_new v p l (yes e) =
          h v
          ∙ rw (eq-eqb v new e, s.far_clear v (omega arith)) (or_clear (names_one fs))
          ∙ sym (ap (used after.faces) e ∙ split_new t)
      by_new v p l (no n) = h v ∙ rw (ne_eqb v new n) (s.new_used v p (omega arith)) ∙ sym (split_used v p n)
