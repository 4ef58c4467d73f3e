-- The lines of each kind are as many as the report tells: the four removals, of which pass 1 counts repeated and thin faces apart, the points added, the
-- exchanges, the isolated points. Assumes nothing.
use mathlib.Core.Path.{◌≡◌, refl, sym, ap, ◌∙◌}
use mathlib.Core.Logic.{◌≢◌}
use mathlib.Core.Bool.{Bool, true, false, ◌||◌, cond}
use mathlib.Core.List.{List, [], ◌∷◌, ◌++◌}
use Prim.Native.Nat.{ℕ, zero, suc, ◌+◌, ◌<◌}
use native.Mathlib.Nat.{add-zero}
use native.Mathlib.Omega.{arith}
use native.Mathlib.Decide.{ℕ_discrete}
use borrow.Author.Tests.{eq-eqb, ne_eqb}
use lib.Dec.{eqb, ltb, lit<}
use lib.Ieee.{Float}
use lib.ListN.{length, get_or, drop, length-append, length-set}
use Rattle.rules.specs.Lists.{below, filter, count, each}
use Rattle.rules.specs.Mesh.{Point, Face, point, face}
use Rattle.rules.specs.Float.{Shape, good, repeated, thin, shape, is_repeated, is_thin}
use Rattle.rules.specs.State.{State, Count, report_counts, place, more, start, counted, with_faces, dropped, repeateds, thins, duplicates, crowded_edges, dropped_at_edges, dropped_for_direction, vertices_split, points_added, reoriented, components, isolated}
use Rattle.rules.specs.Pass1.{pass1, repeated1, thin1, marked1}
use Rattle.rules.specs.Pass2.{pass2, marked2}
use Rattle.rules.specs.Pass3.{pass3, marked3, crowded}
use Rattle.rules.specs.Pass4.{pass4, oriented, marked4}
use Rattle.rules.specs.Pass5.{fans, split_off, split, pass5}
use Rattle.rules.specs.Pass6.{pass6, marked6}
use Rattle.rules.specs.Repair.{bit, optional, passes, repaired}
use Rattle.rules.specs.Mending.{for_repeated, for_thin, for_duplicate, for_edge, for_direction, reason_of, Line, dropped_face, exchange, split_point, isolated_point, drops, turned, SplitLog, log_off, log_at, takers, lines1, lines2, lines3, lines4, lines5, lines6, list}
use Rattle.rule_laws.proofs.Lists.{each_append, count_below, through_keeps}
use Rattle.rule_laws.proofs.Counting.{count_append}
use Rattle.rule_laws.proofs.Demand.{at}
use Rattle.rule_laws.proofs.Counts.{more_same, more_other}
use Rattle.rule_laws.proofs.Turning.{oriented_turned}
use Rattle.mending_laws.proofs.Exchanging.{exchanges}
use Rattle.mending_laws.proofs.Exact.{exchanges_told}
use Rattle.mending_laws.proofs.Copying.{log_points}

-- the place in the report of a line's kind
abbrev pub kind : Line → ℕ
kind (dropped_face f for_repeated) = 0
kind (dropped_face f for_thin) = 1
kind (dropped_face f for_duplicate) = 2
kind (dropped_face f for_edge) = 4
kind (dropped_face f for_direction) = 5
kind (split_point old new fs) = 7
kind (exchange f) = 8
kind (isolated_point v) = 10

-- how many lines are of the kind that is told at place k
abbrev pub tally : ℕ → List Line → ℕ
tally k ls = count (λ l. eqb k (kind l)) ls

-- ---- marks

module _ (k j : ℕ) (p : ℕ → Bool) (line : ℕ → Line) (is : (i : ℕ) → kind (line i) ≡ j) where
  -- a line for each marked number below n, all of one kind
  marks_tally : (n : ℕ) → tally k (each (λ i. cond (p i) (line i ∷ []) []) (below n)) ≡ cond (eqb k j) (count p (below n)) 0
  unfolding below each
  marks_tally zero = unfold count filter in (nothing (eqb k j))
    where
      nothing : (b : Bool) → ◌≡◌ {A = ℕ} 0 (cond b 0 0)
      nothing true = refl
      nothing false = refl
  marks_tally (suc n) =
      ap (tally k) (each_append (λ i. cond (p i) (line i ∷ []) []) (below n) (n ∷ []))
      ∙ count_append (λ l. eqb k (kind l)) (each (λ i. cond (p i) (line i ∷ []) []) (below n)) (each (λ i. cond (p i) (line i ∷ []) []) (n ∷ []))
      ∙ (λ i. marks_tally n i + one (p n) i)
      ∙ sums (eqb k j) (count p (below n)) (p n)
      ∙ ap (λ c. cond (eqb k j) c 0) (sym (count_below p n))
    where
      alone : (b : Bool) → eqb k (kind (line n)) ≡ b → count (λ l. eqb k (kind l)) (line n ∷ []) ≡ cond b 1 0
      alone b e = unfold count filter in (rw e (pick b))
        where
          pick : (b : Bool) → length (cond b (line n ∷ []) []) ≡ cond b 1 0
          pick true = refl
          pick false = refl

      one : (b : Bool) → count (λ l. eqb k (kind l)) (cond b (line n ∷ []) [] ++ []) ≡ cond b (cond (eqb k j) 1 0) 0
      one true = alone (eqb k j) (ap (eqb k) (is n))
      one false = unfold count filter in refl

      sums : (b : Bool) (c : ℕ) (q : Bool) → cond b c 0 + cond q (cond b 1 0) 0 ≡ cond b (c + cond q 1 0) 0
      sums true c true = refl
      sums true c false = refl
      sums false c true = omega arith
      sums false c false = omega arith

-- in pass 1 the shape of a face tells the kind
module _ (k : ℕ) (s : Float) (ps : List Point) (fs : List Face) where
  -- the line of face i, if it leaves
  abbrev line1 : ℕ → List Line
  line1 i = cond (marked1 s ps fs i) (dropped_face (face fs i).origin (reason_of (shape s ps (face fs i))) ∷ []) []

  -- one face
  one_why : (i : ℕ) → tally k (line1 i ++ []) ≡ cond (eqb k 0) (cond (repeated1 s ps fs i) 1 0) 0 + cond (eqb k 1) (cond (thin1 s ps fs i) 1 0) 0
  unfolding marked1 repeated1 thin1 count filter is_repeated is_thin reason_of
  one_why i = by_shape (face fs i).origin (shape s ps (face fs i))
    where
      nothing : (b : Bool) → ◌≡◌ {A = ℕ} (cond b 0 0) 0
      nothing true = refl
      nothing false = refl

      one : (b : Bool) (l : Line) → length (cond b (l ∷ []) []) ≡ cond b 1 0
      one true l = refl
      one false l = refl

      by_shape :
          (f : ℕ) (x : Shape)
          → tally k (cond (is_repeated x || is_thin x) (dropped_face f (reason_of x) ∷ []) [] ++ []) ≡ cond (eqb k 0) (cond (is_repeated x) 1 0) 0 + cond (eqb k 1) (cond (is_thin x) 1 0) 0
      by_shape f good = omega (arith, nothing (eqb k 0), nothing (eqb k 1))
      by_shape f repeated = omega (arith, one (eqb k 0) (dropped_face f for_repeated), nothing (eqb k 1))
      by_shape f thin = omega (arith, one (eqb k 1) (dropped_face f for_thin), nothing (eqb k 0))

  -- the faces below n
  why_tally : (n : ℕ) → tally k (each line1 (below n)) ≡ cond (eqb k 0) (count (repeated1 s ps fs) (below n)) 0 + cond (eqb k 1) (count (thin1 s ps fs) (below n)) 0
  unfolding below each
  why_tally zero = unfold count filter in (nothing (eqb k 0) (eqb k 1))
    where
      nothing : (a b : Bool) → ◌≡◌ {A = ℕ} 0 (cond a 0 0 + cond b 0 0)
      nothing true true = refl
      nothing true false = refl
      nothing false true = refl
      nothing false false = refl
  why_tally (suc n) =
      ap (tally k) (each_append line1 (below n) (n ∷ []))
      ∙ count_append (λ l. eqb k (kind l)) (each line1 (below n)) (each line1 (n ∷ []))
      ∙ (λ i. why_tally n i + one_why n i)
      ∙ sums (eqb k 0) (eqb k 1) (count (repeated1 s ps fs) (below n)) (count (thin1 s ps fs) (below n)) (cond (repeated1 s ps fs n) 1 0) (cond (thin1 s ps fs n) 1 0)
      ∙ (λ i. cond (eqb k 0) (sym (count_below (repeated1 s ps fs) n) i) 0 + cond (eqb k 1) (sym (count_below (thin1 s ps fs) n) i) 0)
    where
      sums : (a b : Bool) (x y u v : ℕ) → cond a x 0 + cond b y 0 + (cond a u 0 + cond b v 0) ≡ cond a (x + u) 0 + cond b (y + v) 0
      sums true true x y u v = omega arith
      sums true false x y u v = omega arith
      sums false true x y u v = omega arith
      sums false false x y u v = omega arith

-- ---- the report

-- each count has a place in the report
place_below : (c : Count) → place c < report_counts
unfolding place
place_below repeateds = lit< tt
place_below thins = lit< tt
place_below duplicates = lit< tt
place_below crowded_edges = lit< tt
place_below dropped_at_edges = lit< tt
place_below dropped_for_direction = lit< tt
place_below vertices_split = lit< tt
place_below points_added = lit< tt
place_below reoriented = lit< tt
place_below components = lit< tt
place_below isolated = lit< tt

-- n more at d
more_at : (c d : Count) (n : ℕ) (r : List ℕ) → length r ≡ report_counts → at (more d n r) c ≡ at r c + cond (eqb (place c) (place d)) n 0
more_at c d n r e = go (ℕ_discrete (place c) (place d))
  where
    h : place d < length r
    h = rw e (place_below d)

    go : Dec (place c ≡ place d) → at (more d n r) c ≡ at r c + cond (eqb (place c) (place d)) n 0
    go (yes q) = rw (eq-eqb (place c) (place d) q, q) (more_same d n r h)
    go (no q) = rw (ne_eqb (place c) (place d) q, add-zero (at r c)) (more_other d c n r q)

-- at a place that is not looked at
more_off : (c d : Count) (n : ℕ) (r : List ℕ) → place c ≢ place d → at (more d n r) c ≡ at r c
more_off c d n r q = more_other d c n r q

-- the report keeps its length
more_whole : (d : Count) (n : ℕ) (r : List ℕ) → length r ≡ report_counts → length (more d n r) ≡ report_counts
unfolding more
more_whole d n r e = length-set r (place d) (get_or r (place d) 0 + n) ∙ e

-- a count that lines tell: not the crowded edges, the vertices split or the components
pub record Told (c : Count) : Type 0 where
  pub no_edges : place c ≢ 3
  pub no_vertices : place c ≢ 6
  pub no_components : place c ≢ 9

module _ (c : Count) (told : Told c) where
  -- the report has all its counts, and a pass adds as many at c as there are lines of that kind
  record Tells (m after : State) (ls : List Line) : Type 0 where
    whole : length after.report ≡ report_counts
    adds : at after.report c ≡ at m.report c + tally (place c) ls

  -- a pass that is off
  tells_if : (b : Bool) (pass : State → State) (ls : List Line) (m : State) → length m.report ≡ report_counts → Tells m (pass m) ls → Tells m (optional b pass m) (cond b ls [])
  unfolding optional
  tells_if true pass ls m e h = h
  tells_if false pass ls m e h = record { whole = e; adds = unfold count filter in (sym (add-zero (at m.report c))) }

  -- pass 1: faces that repeat a corner and thin ones, counted apart
  tells1 : (s : Float) (m : State) → length m.report ≡ report_counts → Tells m (pass1 s m) (lines1 s m)
  unfolding pass1 counted with_faces lines1 drops place
  tells1 s m e =
      let n = count (repeated1 s m.points m.faces) (below (length m.faces)) in
      let k = count (thin1 s m.points m.faces) (below (length m.faces)) in
      let r = more repeateds n m.report in
      let w = more_whole repeateds n m.report e in
      record {
        whole = more_whole thins k r w;
        adds = omega (arith, more_at c thins k r w, more_at c repeateds n m.report e, why_tally (place c) s m.points m.faces (length m.faces));
      }

  -- pass 2
  tells2 : (m : State) → length m.report ≡ report_counts → Tells m (pass2 m) (lines2 m)
  unfolding pass2 dropped counted with_faces lines2 drops place
  tells2 m e =
      let marked = marked2 m.faces in
      let n = count marked (below (length m.faces)) in
      record {
        whole = more_whole duplicates n m.report e;
        adds =
            more_at c duplicates n m.report e
            ∙ ap (λ x. at m.report c + x) (sym (marks_tally (place c) 2 marked (λ i. dropped_face (face m.faces i).origin for_duplicate) (λ i. refl) (length m.faces)));
      }

  -- pass 3
  tells3 : (m : State) → length m.report ≡ report_counts → Tells m (pass3 m) (lines3 m)
  unfolding pass3 dropped counted with_faces lines3 drops place
  tells3 m e =
      let marked = marked3 m.points m.faces in
      let n = count marked (below (length m.faces)) in
      let k = length (crowded (length m.points) m.faces) in
      let r = more crowded_edges k m.report in
      let t = more_whole crowded_edges k m.report e in
      record {
        whole = more_whole dropped_at_edges n r t;
        adds =
            more_at c dropped_at_edges n r t
            ∙ (λ i. more_off c crowded_edges k m.report told.no_edges i + sym (marks_tally (place c) 4 marked (λ j. dropped_face (face m.faces j).origin for_edge) (λ j. refl) (length m.faces)) i);
      }

  -- pass 4
  tells4 : (m : State) → length m.report ≡ report_counts → Tells m (pass4 m) (lines4 m)
  unfolding pass4 dropped counted with_faces lines4 drops place
  tells4 m e =
      let o = oriented m.faces in
      let gs = o.walk.faces in
      let marked = marked4 m.points gs in
      let n = count marked (below (length gs)) in
      let r1 = more reoriented o.walk.exchanges m.report in
      let r2 = more components o.marks r1 in
      let t1 = more_whole reoriented o.walk.exchanges m.report e in
      let t2 = more_whole components o.marks r1 t1 in
      let a = more_at c dropped_for_direction n r2 t2 in
      let b = more_off c components o.marks r1 told.no_components in
      let d = more_at c reoriented o.walk.exchanges m.report e in
      let f = marks_tally (place c) 5 marked (λ j. dropped_face (face gs j).origin for_direction) (λ j. refl) (length gs) in
      let g = marks_tally (place c) 8 (turned m.faces gs) (λ j. exchange (face gs j).origin) (λ j. refl) (length gs) in
      let z = ap (λ n. cond (eqb (place c) 8) n 0) (ap (λ n. count (turned m.faces gs) (below n)) (oriented_turned m.faces).0 ∙ exchanges_told m.faces) in
      let u = count_append (λ l. eqb (place c) (kind l)) (exchanges m.faces gs) (drops marked (λ i. for_direction) gs) in
      record { whole = more_whole dropped_for_direction n r2 t2; adds = omega (arith, a, b, d, f, g, z, u) }

  -- pass 6
  tells6 : (m : State) → length m.report ≡ report_counts → Tells m (pass6 m) (lines6 m)
  unfolding pass6 lines6 place
  tells6 m e =
      let n = count (marked6 m.faces) (below (length m.points)) in
      record {
        whole = more_whole isolated n m.report e;
        adds = more_at c isolated n m.report e ∙ ap (λ x. at m.report c + x) (sym (marks_tally (place c) 10 (marked6 m.faces) isolated_point (λ i. refl) (length m.points)));
      }

  -- ---- pass 5: as many splits as points are added

  -- one more on both sides, or nothing
  both_more : (b : Bool) (x x' y y' P A : ℕ) → x' ≡ x + cond b 1 0 → y' ≡ suc y → x + cond b P 0 ≡ A + cond b y 0 → x' + cond b P 0 ≡ A + cond b y' 0
  both_more true x x' y y' P A e f h = omega arith
  both_more false x x' y y' P A e f h = omega arith

  -- what the report tells, by the points that stand
  record Grown (m x : State) : Type 0 where
    whole : length x.report ≡ report_counts
    tells : at x.report c + cond (eqb (place c) 7) (length m.points) 0 ≡ at m.report c + cond (eqb (place c) 7) (length x.points) 0

  -- a group that is split off
  off_grown : (m : State) (v : ℕ) (x : State) (fan : List ℕ) → Grown m x → Grown m (split_off v x fan)
  unfolding split_off place
  off_grown m v x fan h =
      record {
        whole = more_whole points_added 1 x.report h.whole;
        tells =
            both_more (eqb (place c) 7) (at x.report c) _ (length x.points) _ (length m.points) (at m.report c)
            (more_at c points_added 1 x.report h.whole) (length-append x.points (point x.points v ∷ []) ∙ omega arith) h.tells;
      }

  -- the groups of a vertex
  split_grown : (m x : State) (v : ℕ) → Grown m x → Grown m (split x v)
  unfolding split counted place
  split_grown m x v h =
      let n : ℕ = cond (ltb 1 (length (fans x.faces v))) 1 0 in
      through_keeps (Grown m) (split_off v) (λ y fan q. off_grown m v y fan q) (drop 1 (fans x.faces v)) (counted vertices_split n x)
      (record {
        whole = more_whole vertices_split n x.report h.whole;
        tells = ap (λ a. a + cond (eqb (place c) 7) (length m.points) 0) (more_off c vertices_split n x.report told.no_vertices) ∙ h.tells;
      })

  -- the pass
  pass5_grown : (m : State) → length m.report ≡ report_counts → Grown m (pass5 m)
  unfolding pass5
  pass5_grown m e = through_keeps (Grown m) split (λ x v h. split_grown m x v h) (below (length m.points)) m (record { whole = e; tells = refl })

  -- the lines of the log, by the points that stand
  abbrev Logs : State → SplitLog → Type 0
  Logs m l = tally (place c) l.lines + cond (eqb (place c) 7) (length m.points) 0 ≡ 0 + cond (eqb (place c) 7) (length l.state.points) 0

  -- one line
  one_split : (old new : ℕ) (fs : List ℕ) → tally (place c) (split_point old new fs ∷ []) ≡ cond (eqb (place c) 7) 1 0
  unfolding count filter
  one_split old new fs = go (eqb (place c) 7)
    where
      go : (b : Bool) → length (cond b (split_point old new fs ∷ []) []) ≡ cond b 1 0
      go true = refl
      go false = refl

  -- a group that is split off
  off_logs : (m : State) (v : ℕ) (l : SplitLog) (fan : List ℕ) → Logs m l → Logs m (log_off v l fan)
  unfolding log_off split_off
  off_logs m v l fan h =
      let line = split_point v (length l.state.points) (takers v l.state.faces fan) in
      both_more (eqb (place c) 7) (tally (place c) l.lines) _ (length l.state.points) _ (length m.points) 0
      (count_append (λ x. eqb (place c) (kind x)) l.lines (line ∷ []) ∙ ap (λ x. tally (place c) l.lines + x) (one_split v (length l.state.points) (takers v l.state.faces fan)))
      (length-append l.state.points (point l.state.points v ∷ []) ∙ omega arith) h

  -- the groups of a vertex
  at_logs : (m : State) (l : SplitLog) (v : ℕ) → Logs m l → Logs m (log_at l v)
  unfolding log_at
  at_logs m l v h = through_keeps (Logs m) (log_off v) (λ x fan q. off_logs m v x fan q) (drop 1 (fans l.state.faces v)) l h

  -- the pass
  lines5_logs : (m : State) → tally (place c) (lines5 m) + cond (eqb (place c) 7) (length m.points) 0 ≡ 0 + cond (eqb (place c) 7) (length (pass5 m).points) 0
  unfolding lines5 pass5
  lines5_logs m =
      through_keeps (Logs m) log_at (λ l v h. at_logs m l v h) (below (length m.points)) (record { state = m; lines = [] }) (unfold count filter in refl)
      ∙ ap (λ ps. 0 + cond (eqb (place c) 7) (length ps) 0) (log_points m (length m.points))

  -- pass 5
  tells5 : (m : State) → length m.report ≡ report_counts → Tells m (pass5 m) (lines5 m)
  tells5 m e = let g = pass5_grown m e in record { whole = g.whole; adds = go (eqb (place c) 7) _ (at m.report c) (tally (place c) (lines5 m)) (length m.points) (length (pass5 m).points) g.tells (lines5_logs m) }
    where
      go : (b : Bool) (x a t p q : ℕ) → x + cond b p 0 ≡ a + cond b q 0 → t + cond b p 0 ≡ 0 + cond b q 0 → x ≡ a + t
      go true x a t p q h k = omega arith
      go false x a t p q h k = omega arith

-- before the first pass every count is zero
start_zero : (c : Count) (ps : List Point) (fs : List Face) → at (start ps fs).report c ≡ 0
unfolding start place
start_zero repeateds ps fs = refl
start_zero thins ps fs = refl
start_zero duplicates ps fs = refl
start_zero crowded_edges ps fs = refl
start_zero dropped_at_edges ps fs = refl
start_zero dropped_for_direction ps fs = refl
start_zero vertices_split ps fs = refl
start_zero points_added ps fs = refl
start_zero reoriented ps fs = refl
start_zero components ps fs = refl
start_zero isolated ps fs = refl

-- six groups of lines together
six_tallies : (k : ℕ) (a b c d e f : List Line) → tally k (a ++ b ++ c ++ d ++ e ++ f) ≡ tally k a + tally k b + tally k c + tally k d + tally k e + tally k f
six_tallies k a b c d e f =
    let q : Line → Bool = λ l. eqb k (kind l) in
    omega (arith, count_append q (a ++ b ++ c ++ d ++ e) f, count_append q (a ++ b ++ c ++ d) e, count_append q (a ++ b ++ c) d, count_append q (a ++ b) c, count_append q a b)

-- under any options the lines of a kind are as many as the report tells
pub lines_are_told : (c : Count) → Told c → (s : Float) (options : ℕ) (ps : List Point) (fs : List Face) → tally (place c) (list s options ps fs) ≡ at (repaired s options ps fs).report c
unfolding list repaired passes
lines_are_told c told s options ps fs =
    let m0 = start ps fs in
    let m1 = optional (bit 0 options) (pass1 s) m0 in
    let m2 = optional (bit 1 options) pass2 m1 in
    let m3 = optional (bit 2 options) pass3 m2 in
    let m4 = optional (bit 4 options) pass4 m3 in
    let m5 = optional (bit 3 options) pass5 m4 in
    let t0 : length m0.report ≡ report_counts = unfold start in refl in
    let t1 = tells_if c told (bit 0 options) (pass1 s) (lines1 s m0) m0 t0 (tells1 c told s m0 t0) in
    let t2 = tells_if c told (bit 1 options) pass2 (lines2 m1) m1 t1.whole (tells2 c told m1 t1.whole) in
    let t3 = tells_if c told (bit 2 options) pass3 (lines3 m2) m2 t2.whole (tells3 c told m2 t2.whole) in
    let t4 = tells_if c told (bit 4 options) pass4 (lines4 m3) m3 t3.whole (tells4 c told m3 t3.whole) in
    let t5 = tells_if c told (bit 3 options) pass5 (lines5 m4) m4 t4.whole (tells5 c told m4 t4.whole) in
    let t6 = tells_if c told (bit 5 options) pass6 (lines6 m5) m5 t5.whole (tells6 c told m5 t5.whole) in
    let l1 = cond (bit 0 options) (lines1 s m0) [] in
    let l2 = cond (bit 1 options) (lines2 m1) [] in
    let l3 = cond (bit 2 options) (lines3 m2) [] in
    let l4 = cond (bit 4 options) (lines4 m3) [] in
    let l5 = cond (bit 3 options) (lines5 m4) [] in
    let l6 = cond (bit 5 options) (lines6 m5) [] in
    omega (arith, six_tallies (place c) l1 l2 l3 l4 l5 l6, t1.adds, t2.adds, t3.adds, t4.adds, t5.adds, t6.adds, start_zero c ps fs)

-- ---- these are told: the four removals, the first of them in two counts, the points added, the exchanges, the isolated points

-- faces that repeat a corner
pub told_repeateds : Told repeateds
unfolding place
told_repeateds = record { no_edges = λ e. omega arith; no_vertices = λ e. omega arith; no_components = λ e. omega arith }

-- thin faces
pub told_thins : Told thins
unfolding place
told_thins = record { no_edges = λ e. omega arith; no_vertices = λ e. omega arith; no_components = λ e. omega arith }

-- duplicates
pub told_duplicates : Told duplicates
unfolding place
told_duplicates = record { no_edges = λ e. omega arith; no_vertices = λ e. omega arith; no_components = λ e. omega arith }

-- faces dropped at an edge
pub told_edges : Told dropped_at_edges
unfolding place
told_edges = record { no_edges = λ e. omega arith; no_vertices = λ e. omega arith; no_components = λ e. omega arith }

-- faces dropped for their direction
pub told_direction : Told dropped_for_direction
unfolding place
told_direction = record { no_edges = λ e. omega arith; no_vertices = λ e. omega arith; no_components = λ e. omega arith }

-- points added
pub told_added : Told points_added
unfolding place
told_added = record { no_edges = λ e. omega arith; no_vertices = λ e. omega arith; no_components = λ e. omega arith }

-- isolated points
pub told_isolated : Told isolated
unfolding place
told_isolated = record { no_edges = λ e. omega arith; no_vertices = λ e. omega arith; no_components = λ e. omega arith }

-- exchanges
pub told_reoriented : Told reoriented
unfolding place
told_reoriented = record { no_edges = λ e. omega arith; no_vertices = λ e. omega arith; no_components = λ e. omega arith }
