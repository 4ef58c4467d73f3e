-- How many lines apply at most, by the rules alone: each is behind the one before it. So the place of refusal 15 is near. Assumes nothing.
use mathlib.Core.Path.{◌≡◌, refl, sym, ap, ◌∙◌, subst}
use mathlib.Core.Bool.{Bool, true, false, not, cond, ◌&&◌, ◌||◌, true≢false}
use mathlib.Core.Option.{Option, none, some}
use mathlib.Core.List.{List, [], ◌∷◌, map}
use Prim.Native.Nat.{ℕ, zero, suc, ◌+◌, ◌*◌, ◌/◌, ◌≤◌, ◌<◌}
use native.Mathlib.Omega.{arith}
use borrow.Author.Tests.{ltb-true}
use lib.Dec.{T, eqb, ltb, eqb→eq}
use lib.ListN.{length, take, length-append, length-take}
use Rattle.rules.specs.Lists.{has, filter, through, below}
use Rattle.rules.specs.Mesh.{Point, Face, faces_of, exchanged, renamed}
use Rattle.rules.specs.Mending.{Line, Reason, dropped_face, exchange, split_point, isolated_point, for_repeated, for_thin, for_duplicate, for_edge, for_direction}
use Rattle.rules.specs.Refusal.{no}
use Rattle.rules.specs.Applying.{Bench, bench_of, present, applies, change, section, numbers, precedes, with_list_line, lines_read, after_lines, is_none, no15}
use Rattle.rule_laws.proofs.Rising.{All, all_imp, all_map, all_filter, get_or_below}
use Rattle.rule_laws.proofs.Members.{any_elim}
use Rattle.rule_laws.proofs.Lists.{length_below}
use Rattle.rule_laws.proofs.Firsts.{FirstFault, fault_exactly}
use Rattle.rule_laws.proofs.Flat.{numbered, length_faces}
use Rattle.list_lines.specs.Lines.{reason}
use Rattle.list_lines.specs.declared.Reason.TheVariants as word
use Rattle.list_check.specs.Standing.{section_of, last_of, room}
use Rattle.list_check.proofs.Order.{precedes_is, section_low, Behind, behind_true, room_rises, room_splits, room_most}
use Rattle.list_check.proofs.Single.{Numbered, numbered_dropped, numbered_exchange, numbered_split}
use Rattle.list_check.proofs.Firsts.{none_stays}
use Rattle.list_check.proofs.Starting.{all_faces}

-- ---- the last line, and how many lines there were

-- before the `u` lines, and among them
data Ranked (P F k : ℕ) (last : List ℕ) (n : ℕ) : Type 0 where
  early : (s f g : ℕ) → last ≡ last_of s f g → s ≤ 6 → (s < 6 → g ≡ 0) → (0 < s → s < 6 → f < F) → n ≤ room F s f k → Ranked P F k last n
  late : (v : ℕ) → last ≡ 7 ∷ v ∷ [] → v < P + k → n ≤ 8 * F + v + 1 → Ranked P F k last n

record Counted (P F : ℕ) (b : Bench) (n : ℕ) : Type 0 where
  origins : All (λ g. g.origin < F) b.faces
  points : length b.points ≡ P + b.splits
  few : b.splits ≤ 3 * F
  ranked : Ranked P F b.splits b.last n

-- so many at most
counted_most : {P F : ℕ} {b : Bench} {n : ℕ} → Counted P F b n → n ≤ P + 11 * F
counted_most {P} {F} {b} {n} c = go c.ranked
  where
    go : Ranked P F b.splits b.last n → n ≤ P + 11 * F
    go (early s f g e l a low h) = omega (arith, room_most F s f b.splits l c.few low, c.few)
    go (late v e l h) = omega (arith, c.few)

-- ---- one line

-- both tests hold
both : (x y : Bool) → (x && y) ≡ true → (x ≡ true) × (y ≡ true)
both true y e = (refl, e)
both false y e = absurd (true≢false (sym e))

-- a face that is there is one of the input
there : {P F : ℕ} {b : Bench} {n : ℕ} → Counted P F b n → (f : ℕ) → present b f ≡ true → f < F
unfolding present
there {P} {F} {b} c f e =
    let w = any_elim (λ g. eqb f g.origin) (λ g. g.origin < F) b.faces c.origins (subst T (sym e) tt) in
    let q = eqb→eq f w.0.origin w.2 in
    omega (arith, w.1)

-- no line before the `u` lines follows one of them
seven_last : (v f g t : ℕ) → 0 < t → t ≤ 6 → precedes (7 ∷ v ∷ []) (last_of t f g) ≡ false
unfolding last_of precedes
seven_last v f g zero h l = absurd (omega arith)
seven_last v f g (suc zero) h l = refl
seven_last v f g (suc (suc zero)) h l = refl
seven_last v f g (suc (suc (suc zero))) h l = refl
seven_last v f g (suc (suc (suc (suc zero)))) h l = refl
seven_last v f g (suc (suc (suc (suc (suc zero))))) h l = refl
seven_last v f g (suc (suc (suc (suc (suc (suc k)))))) h l = refl

-- the `u` lines by their points
seven_order : (w v : ℕ) → precedes (7 ∷ w ∷ []) (7 ∷ v ∷ []) ≡ ltb w v
unfolding precedes
seven_order w v = or_false (ltb w v) (eqb w v)
  where
    or_false : (x y : Bool) → (x || (y && false)) ≡ x
    or_false true y = refl
    or_false false true = refl
    or_false false false = refl

-- what a line before the `u` lines has before it
record Earlier (F k : ℕ) (last : List ℕ) (n s' f' g' : ℕ) : Type 0 where
  s : ℕ
  f : ℕ
  g : ℕ
  section : s ≤ 6
  low : 0 < s → s < 6 → f < F
  count : n ≤ room F s f k
  order : Behind s f g s' f' g'

earlier_of : {P F k : ℕ} {last : List ℕ} {n : ℕ} → Ranked P F k last n → {t : Line} {s' f' g' : ℕ} → Numbered t s' f' g' → precedes last (section t ∷ numbers t) ≡ true → Earlier F k last n s' f' g'
earlier_of {P} {F} {k} {last} {n} (early s f g e l a low h) {t} {s'} {f'} {g'} m q =
    record {
      s = s;
      f = f;
      g = g;
      section = l;
      low = low;
      count = h;
      order = behind_true s f g s' f' g' (sym q ∙ ap (λ (z : List ℕ). precedes z (section t ∷ numbers t)) e ∙ ap (precedes (last_of s f g)) m.at ∙ precedes_is f g f' g' s s' l m.some_section m.before_unused a m.alone);
    }
earlier_of {P} {F} {k} {last} {n} (late v e l h) {t} {s'} {f'} {g'} m q =
    absurd (true≢false (sym q ∙ ap (λ (z : List ℕ). precedes z (section t ∷ numbers t)) e ∙ ap (precedes (7 ∷ v ∷ [])) m.at ∙ seven_last v f' g' s' m.some_section m.before_unused))

module _ {P F : ℕ} {b : Bench} {n : ℕ} (c : Counted P F b n) where
  -- a face's line
  face_ranked : {l : Line} {s f : ℕ} → Numbered l s f 0 → s < 6 → f < F → precedes b.last (section l ∷ numbers l) ≡ true → Ranked P F b.splits (section l ∷ numbers l) (n + 1)
  face_ranked {l} {s} {f} m h low q =
      let w = earlier_of c.ranked m q in
      early s f 0 m.at (omega arith) (λ z. refl) (λ z y. low)
      (omega (arith, w.count, room_rises F w.s w.f w.g b.splits s f b.splits w.section m.some_section h w.low w.order))

  -- a split's
  split_ranked : (old new : ℕ) (fs : List ℕ) → precedes b.last (section (split_point old new fs) ∷ numbers (split_point old new fs)) ≡ true → Ranked P F (suc b.splits) (section (split_point old new fs) ∷ numbers (split_point old new fs)) (n + 1)
  split_ranked old new fs q =
      let m = numbered_split old new fs in
      let w = earlier_of c.ranked m q in
      let e : b.splits + 1 ≡ suc b.splits = omega arith in
      early 6 old new m.at (omega arith) (λ z. absurd (omega arith)) (λ z y. absurd (omega arith))
      (omega (arith, w.count, rw e at (room_splits F w.s w.f b.splits old w.section w.low)))

  -- a `u` line
  unused_ranked : (v : ℕ) → v < P + b.splits → precedes b.last (7 ∷ v ∷ []) ≡ true → Ranked P F b.splits (7 ∷ v ∷ []) (n + 1)
  unused_ranked v l q = go c.ranked
    where
      rises : (w : ℕ) → precedes (7 ∷ w ∷ []) (7 ∷ v ∷ []) ≡ true → w < v
      rises w e = ltb-true w v (sym (seven_order w v) ∙ e)

      go : Ranked P F b.splits b.last n → Ranked P F b.splits (7 ∷ v ∷ []) (n + 1)
      go (early s f g e h a low k) = late v refl l (omega (arith, room_most F s f b.splits h c.few low))
      go (late w e h k) = late v refl l (omega (arith, rises w (ap (λ (z : List ℕ). precedes z (7 ∷ v ∷ [])) (sym e) ∙ q)))

-- what a filter leaves keeps every property
all_kept : (Q : Face → Type 0) (p : Face → Bool) (fs : List Face) → All Q fs → All Q (filter p fs)
all_kept Q p fs h = all_imp (λ x. Q x × T (p x)) Q (λ x q. q.0) (filter p fs) (all_filter Q p fs h)

-- what changes keep the origins
all_origins : (F : ℕ) (h : Face → Face) → ((g : Face) → (h g).origin ≡ g.origin) → (fs : List Face) → All (λ g. g.origin < F) fs → All (λ g. g.origin < F) (map h fs)
all_origins F h e fs a = all_map (λ g. g.origin < F) h fs (all_imp (λ g. g.origin < F) (λ g. (h g).origin < F) (λ g q. rw (e g) q) fs a)

cond_origin : (t : Bool) (x y : Face) → x.origin ≡ y.origin → (cond t x y).origin ≡ y.origin
cond_origin true x y e = e
cond_origin false x y e = refl

exchanged_origin : (g : Face) → (exchanged g).origin ≡ g.origin
unfolding exchanged
exchanged_origin g = refl

renamed_origin : (r : ℕ → ℕ) (g : Face) → (renamed r g).origin ≡ g.origin
unfolding renamed
renamed_origin r g = refl

-- a dropped face, whatever the reason
numbered_why : (f : ℕ) (why : Reason) → (s : ℕ) × Numbered (dropped_face f why) s f 0 × (s < 6)
unfolding reason
numbered_why f for_repeated = (section_of word.Repeated, numbered_dropped f word.Repeated, (section_low word.Repeated).before_splits)
numbered_why f for_thin = (section_of word.Thin, numbered_dropped f word.Thin, (section_low word.Thin).before_splits)
numbered_why f for_duplicate = (section_of word.Duplicate, numbered_dropped f word.Duplicate, (section_low word.Duplicate).before_splits)
numbered_why f for_edge = (section_of word.Edge, numbered_dropped f word.Edge, (section_low word.Edge).before_splits)
numbered_why f for_direction = (section_of word.Direction, numbered_dropped f word.Direction, (section_low word.Direction).before_splits)

-- a line more
counted_line : {P F : ℕ} {b : Bench} {n : ℕ} → Counted P F b n → (l : Line) → precedes b.last (section l ∷ numbers l) ≡ true → applies P F b l ≡ true → Counted P F (change b l (section l ∷ numbers l)) (n + 1)
unfolding change applies section numbers
counted_line {P} {F} {b} {n} c (dropped_face f why) q a =
    let w = numbered_why f why in
    record {
      origins = all_kept (λ g. g.origin < F) (λ g. not (eqb f g.origin)) b.faces c.origins;
      points = c.points;
      few = c.few;
      ranked = face_ranked c w.1 w.2 (there c f a) q;
    }
counted_line {P} {F} {b} {n} c (exchange f) q a =
    record {
      origins = all_origins F (λ g. cond (eqb f g.origin) (exchanged g) g) (λ g. cond_origin (eqb f g.origin) (exchanged g) g (exchanged_origin g)) b.faces c.origins;
      points = c.points;
      few = c.few;
      ranked = face_ranked c (numbered_exchange f) (omega arith) (there c f a) q;
    }
counted_line {P} {F} {b} {n} c (split_point old new fs) q a =
    let x = both _ _ a in
    let y = both _ _ x.0 in
    let z = both _ _ y.0 in
    let h = ltb-true b.splits (3 * F) z.0 in
    record {
      origins = all_origins F (λ g. cond (has g.origin fs) (renamed (λ v. cond (eqb v old) new v) g) g) (λ g. cond_origin (has g.origin fs) (renamed (λ v. cond (eqb v old) new v) g) g (renamed_origin (λ v. cond (eqb v old) new v) g)) b.faces c.origins;
      points = simp length-append (omega (arith, c.points));
      few = omega arith;
      ranked = split_ranked c old new fs q;
    }
counted_line {P} {F} {b} {n} c (isolated_point v) q a =
    let x = both _ _ a in
    let h = ltb-true v (length b.points) x.0 in
    record {
      origins = c.origins;
      points = c.points;
      few = c.few;
      ranked = unused_ranked c v (omega (arith, c.points)) q;
    }

-- ---- all lines

-- by order and by what stands
with_is : (P F : ℕ) (b : Bench) (l : Line) → with_list_line P F (some b) (some l) ≡ cond (precedes b.last (section l ∷ numbers l) && applies P F b l) (some (change b l (section l ∷ numbers l))) none
unfolding with_list_line
with_is P F b l = refl

with_none : (P F : ℕ) (b : Bench) → with_list_line P F (some b) none ≡ none
unfolding with_list_line
with_none P F b = refl

-- the lines that apply, from a bench on
counted_run : {P F : ℕ} {b : Bench} {n : ℕ} → Counted P F b n → (ls : List (Option Line)) (e : Bench) → through (with_list_line P F) (some b) ls ≡ some e → Counted P F e (n + length ls)
unfolding through
counted_run {P} {F} {b} {n} c [] e q =
    let z : b ≡ e = cc in
    let y : n + 0 ≡ n = omega arith in
    rw y (subst (λ (d : Bench). Counted P F d n) z c)
counted_run {P} {F} {b} {n} c (none ∷ ls) e q =
    let x : none ≡ some e = sym (ap (λ (o : Option Bench). through (with_list_line P F) o ls) (with_none P F b) ∙ none_stays P F ls) ∙ q in
    let z : ◌≡◌ {A = ℕ} 0 1 = cc in
    absurd (omega arith)
counted_run {P} {F} {b} {n} c (some l ∷ ls) e q =
    let y : n + suc (length ls) ≡ n + 1 + length ls = omega arith in
    rw y (go (precedes b.last (section l ∷ numbers l) && applies P F b l) refl (λ d. counted_run {b = change b l (section l ∷ numbers l)} {n = n + 1} d ls e))
  where
    go : (t : Bool) → (precedes b.last (section l ∷ numbers l) && applies P F b l) ≡ t
        → (Counted P F (change b l (section l ∷ numbers l)) (n + 1) → through (with_list_line P F) (some (change b l (section l ∷ numbers l))) ls ≡ some e → Counted P F e (n + 1 + length ls))
        → Counted P F e (n + 1 + length ls)
    go true h r =
        let w = both _ _ h in
        r (counted_line c l w.0 w.1)
        (ap (λ (o : Option Bench). through (with_list_line P F) o ls) (sym (with_is P F b l ∙ ap (λ (t : Bool). cond t (some (change b l (section l ∷ numbers l))) none) h)) ∙ q)
    go false h r =
        let x : none ≡ some e = sym (ap (λ (o : Option Bench). through (with_list_line P F) o ls) (with_is P F b l ∙ ap (λ (t : Bool). cond t (some (change b l (section l ∷ numbers l))) none) h) ∙ none_stays P F ls) ∙ q in
        let z : ◌≡◌ {A = ℕ} 0 1 = cc in
        absurd (omega arith)

-- no line yet
counted_begin : (ps : List Point) (xs : List ℕ) → Counted (length ps) (length (faces_of xs)) (bench_of ps (faces_of xs)) 0
unfolding bench_of
counted_begin ps xs =
    record {
      origins = all_faces (λ g. g.origin < length (faces_of xs)) xs (λ i l. omega (arith, numbered xs i (omega (arith, length_faces xs)), length_faces xs));
      points = omega arith;
      few = omega arith;
      ranked = early 0 0 0 (unfold last_of in refl) (omega arith) (λ z. refl) (λ z y. absurd (omega arith)) (omega arith);
    }

-- the lines that apply are at most so many
pub few_lines : (ps : List Point) (xs : List ℕ) (ls : List (Option Line)) (b : Bench) → after_lines ps (faces_of xs) ls ≡ some b → length ls ≤ length ps + 11 * (length xs / 3)
unfolding after_lines
few_lines ps xs ls b e =
    let c = counted_most (counted_run (counted_begin ps xs) ls b e) in
    omega (arith, length_faces xs)

-- so the first bad line is near
pub no15_near : (ps : List Point) (xs text : List ℕ) (p : ℕ) → no15 ps (faces_of xs) text ≡ no 15 p → p ≤ length ps + 11 * (length xs / 3)
unfolding no15
no15_near ps xs text p e = go p ((fault_exactly fault 0 15 (below (length (lines_read text))) p).0 e)
  where
    fault : ℕ → Bool
    fault k = is_none (after_lines ps (faces_of xs) (take (suc k) (lines_read text)))

    stands : (o : Option Bench) → is_none o ≡ false → (b : Bench) × (o ≡ some b)
    stands none q = absurd (true≢false (unfold is_none in q))
    stands (some b) q = (b, refl)

    go : (i : ℕ) → FirstFault fault 0 (below (length (lines_read text))) i → i ≤ length ps + 11 * (length xs / 3)
    go zero f = omega arith
    go (suc i) f =
        let l : suc i < length (lines_read text) = rw length_below at f.inside in
        let q : fault i ≡ false = ap fault (sym (get_or_below (length (lines_read text)) i (omega arith))) ∙ f.before i (omega arith) in
        let w = stands (after_lines ps (faces_of xs) (take (suc i) (lines_read text))) q in
        omega (arith, few_lines ps xs (take (suc i) (lines_read text)) w.0 w.1, length-take (suc i) (lines_read text))
