-- Passes 1, 2 and 3, each by its option: marked faces leave, and their fates tell the lines. Assumes nothing.
use mathlib.Core.Path.{◌≡◌, refl, sym, ap, ◌∙◌, subst}
use mathlib.Core.Bool.{Bool, true, false, ◌||◌, cond}
use mathlib.Core.List.{List, [], ◌∷◌, ◌++◌}
use Prim.Native.Nat.{ℕ, ◌+◌, ◌%◌, ◌≤◌, ◌<◌}
use native.Mathlib.Omega.{arith}
use borrow.Author.Tests.{eq-eqb, ne_eqb}
use lib.ListN.{get_or}
use lib.Ieee.{Float}
use Rattle.rows.specs.Region.{Only, Apart.before}
use Rattle.rows.proofs.Regions.{only_none, only_more, only2_none, only2_both, only2_left, only2_right, holds_kept}
use Rattle.leaving.specs.Pass.{standing, carried, Flagged, MarkGives, LeaveAsks, LeaveGives}
use Rattle.leaving.proofs.Standing.{standing_face}
use Rattle.mending_rows.specs.Told.{code, drop_told, drops_told, first_told}
use Rattle.rules.specs.Lists.{each, leave}
use Rattle.rules.specs.Mesh.{Point, Face, face, points_of}
use Rattle.rules.specs.Float.{Shape, good, repeated, thin, shape, repeats, is_repeated, is_thin}
use Rattle.rules.specs.Repair.{optional}
use Rattle.rules.specs.State.{State, counted, with_faces, dropped}
use Rattle.rules.specs.Pass1.{pass1, repeated1, thin1, marked1}
use Rattle.rules.specs.Pass2.{pass2, marked2}
use Rattle.rules.specs.Pass3.{pass3, marked3}
use Rattle.rules.specs.Mending.{Reason, for_repeated, for_thin, for_duplicate, for_edge, for_direction, Line, dropped_face, drops, reason_of, lines1, lines2, lines3}
use Rattle.rule_laws.proofs.Why.{repeated_is}
use Rattle.rule_laws.proofs.Relabel.{Alike, shape_alike, marked1_alike, marked2_alike, marked3_alike}
use Rattle.fates.specs.Adding.{AddGives, FlagAsks, corners_at, flagged, by_flag, why_of, by_shape}
use Rattle.fates.specs.Fating.{Rooms, rooms, faces_in, fate_in, scratch, Stands, Has, Became, Became.same, Changed, PassGives, lines_if}
use Rattle.fates.proofs.Sums.{cond_most, summed}
use Rattle.fates.proofs.ByOrigin.{each_none}
use Rattle.fates.proofs.Standing.{add_asks, fate_kept, scratched, alike}
use Rattle.fates.proofs.Stepping.{drops_by, told_at, told_off, became_so, stands_so, left_has}

-- ---- lines and fates

-- codes are from 1 to 5
pub code_small : (why : Reason) → (0 < code why) × (code why < 6)
unfolding code
code_small for_repeated = (omega arith, omega arith)
code_small for_thin = (omega arith, omega arith)
code_small for_duplicate = (omega arith, omega arith)
code_small for_edge = (omega arith, omega arith)
code_small for_direction = (omega arith, omega arith)

-- a fate below the code tells nothing of it
pub quiet : (fate : ℕ → ℕ) (why : Reason) (f : ℕ) → fate f < code why → drop_told fate why f ≡ []
unfolding drop_told
quiet fate why f h = rw (ne_eqb (fate f % 8) (code why) (λ e. absurd (omega (arith, e, h, (code_small why).1)))) refl

-- the code of a marked face tells its line
pub loud : (fate : ℕ → ℕ) (why : Reason) (f : ℕ) (b : Bool) → fate f ≡ cond b (code why) 0 → cond b (dropped_face f why ∷ []) [] ≡ drop_told fate why f
unfolding drop_told
loud fate why f true e = rw (eq-eqb (fate f % 8) (code why) (omega (arith, e, (code_small why).1))) refl
loud fate why f false e = rw (ne_eqb (fate f % 8) (code why) (λ d. absurd (omega (arith, d, e, (code_small why).0)))) refl

-- small fates tell nothing
pub none_told : (fate : ℕ → ℕ) (why : Reason) (F : ℕ) → ((f : ℕ) → f < F → fate f < code why) → drops_told fate why F ≡ []
unfolding drops_told
none_told fate why F h = each_none (drop_told fate why) F (λ f l. quiet fate why f (h f l))

-- the code where a flag is set
flag_code : (b : Bool) (v c : ℕ) → v ≡ cond b 1 0 → flagged v c ≡ cond b c 0
flag_code true v c e = rw e refl
flag_code false v c e = rw e refl

-- flags as amounts
pub amount_is : {w : List ℕ} {marks n : ℕ} (marked : ℕ → Bool) (c : ℕ) → Flagged w marks n marked → (i : ℕ) → i < n → by_flag w marks c i ≡ cond (marked i) c 0
amount_is {w} {marks} marked c f i h = flag_code (marked i) (get_or w (marks + i) 0) c (f.each i h)

-- the flags still stand once amounts are added behind them
pub flags_stand : {amount : ℕ → ℕ} {os w w' : List ℕ} {n k marks fates : ℕ} (marked : ℕ → Bool) → marks + k ≤ fates → AddGives amount os n w fates w' → Flagged w marks k marked → Flagged w' marks k marked
flags_stand marked h g f = holds_kept g.only (before h) f

-- ---- a pass that is off

module _ {most : ℕ} {r : Rooms} (a : Stands most r) where
  -- fates may be said to be larger
  pub stands_more : (top : ℕ) → most ≤ top → Stands top r
  stands_more top h =
      record {
        whole = a.whole;
        points = a.points;
        few = a.few;
        own = a.own;
        fit = a.fit;
        inside = a.inside;
        up = a.up;
        low = a.low;
        behind = a.behind;
        room = a.room;
        untold = a.untold;
        least = λ f l. omega (arith, a.least f l);
      }

  -- nothing is changed, and nothing is told
  pub off :
      (pass : State → State) (lines : State → List Line) (told : (ℕ → ℕ) → ℕ → List Line) (c top : ℕ) → most ≤ top → told (fate_in r) (faces_in r) ≡ []
      → PassGives (optional false pass) (lines_if false lines) told c top r r
  unfolding optional
  off pass lines told c top h none =
      record {
        stands = stands_more top h;
        changed = record { only_faces = only_none 0 _ _; only_origins = only_none 0 _ _; only_work = only2_none 0 _ _ _ _ };
        became = λ f l. same refl;
        has = λ m q. q;
        tells = λ m q. sym none;
      }

  -- ---- what the walks ask

  module _ {marked : ℕ → Bool} {t marks : ℕ} {w : List ℕ} (h : t ≤ scratch r) (mg : MarkGives marked t r.n r.work w marks) where
    -- marked faces may be told
    pub flag_asks : most ≤ 13 → FlagAsks r.origins marks r.n w r.fates
    flag_asks q = record { add = add_asks (scratched a h mg.only) q; flags = omega (arith, mg.within, a.behind) }

    module _ {amount : ℕ → ℕ} {w' : List ℕ} (g : AddGives amount r.origins r.n w r.fates w') where
      -- and may leave
      pub leave_asks : LeaveAsks r.faces r.origins w' marks r.n
      leave_asks = record { faces_fit = a.fit; origins_fit = a.own; flags_fit = omega (arith, mg.within, a.behind, a.room, mg.only.long, g.only.long) }

      -- and those that left are the marked ones
      pub left_marked : {xs os : List ℕ} {k : ℕ} → ((by : ℕ → Bool) → Flagged w' marks r.n by → LeaveGives by r.faces r.origins r.n xs os k) → LeaveGives marked r.faces r.origins r.n xs os k
      left_marked leaves = leaves marked (flags_stand marked (omega (arith, mg.within, a.behind)) g mg.flags)

  -- ---- a pass that is on

  -- what is changed
  pub changed_by :
      {amount : ℕ → ℕ} {marked : ℕ → Bool} {t k : ℕ} {w w' xs os : List ℕ} → t ≤ scratch r → Only 0 t r.work w → AddGives amount r.origins r.n w r.fates w'
      → LeaveGives marked r.faces r.origins r.n xs os k → Changed r (rooms r.points xs os k w' r.fates)
  changed_by h o g l =
      record { only_faces = l.only_faces; only_origins = l.only_origins; only_work = only2_both (only2_left (only_more (omega arith) (omega arith) o)) (only2_right g.only) }

  module _ (why : Reason) (c : ℕ) (is : code why ≡ c) (later : most < c) (pass : State → State) (lines : State → List Line) (mark : List Point → List Face → ℕ → Bool)
      (same_points : (m : State) → (pass m).points ≡ m.points) (leaves : (m : State) → (pass m).faces ≡ leave (mark m.points m.faces) m.faces)
      (told : (m : State) → lines m ≡ drops (mark m.points m.faces) (λ i. why) m.faces)
      (marks-alike : (ps : List Point) (gs fs : List Face) → Alike gs fs → (i : ℕ) → mark ps gs i ≡ mark ps fs i) where
    -- the faces without and with their origins
    abbrev marked : ℕ → Bool
    marked = mark (points_of r.points) (standing r.faces r.n)

    abbrev cs : List Face
    cs = carried r.faces r.origins r.n

    -- no pass looks at these
    marks_are : mark (points_of r.points) cs ≡ marked
    marks_are = sym (λ j i. marks-alike (points_of r.points) (standing r.faces r.n) cs (alike a) i j)

    -- marked faces leave for one reason
    pub on :
        {t marks k : ℕ} {w w' xs os : List ℕ} → t ≤ scratch r → MarkGives marked t r.n r.work w marks → AddGives (by_flag w marks c) r.origins r.n w r.fates w'
        → LeaveGives marked r.faces r.origins r.n xs os k
        → PassGives (optional true pass) (lines_if true lines) (λ fate. drops_told fate why) c c r (rooms r.points xs os k w' r.fates)
    unfolding optional
    on {t} {marks} {k} {w} {w'} {xs} {os} h mg g l =
        let a₁ = scratched a h mg.only in
        let s = summed g in
        let small : c < 6 = omega (arith, is, (code_small why).1) in
        let amounts = amount_is marked c mg.flags in
        record {
          stands = stands_so a₁ l s c (omega arith) (λ i q. omega (arith, amounts i q, cond_most (marked i) c 0 c (omega arith) (omega arith))) (λ i q e. amounts i q ∙ ap (λ (b : Bool). cond b c 0) e);
          changed = changed_by h mg.only g l;
          became = λ f q. subst (λ (x : ℕ). Became c x (get_or w' (r.fates + f) 0)) (fate_kept a h mg.only f) (became_so a₁ s c (λ i p d z y e. apart (marked i) (by_flag w marks c i) d small (amounts i p) z y e) f q);
          has = λ m q. left_has a l (same_points m ∙ q.points) (mark m.points m.faces) (leaves m ∙ ap (leave (mark m.points m.faces)) q.faces) ((λ j. mark (q.points j) (q.faces j)) ∙ marks_are);
          tells =
              λ m q.
              told m ∙ (λ j. drops (mark (q.points j) (q.faces j)) (λ i. why) (q.faces j)) ∙ ap (λ (b : ℕ → Bool). drops b (λ i. why) cs) marks_are
              ∙ (unfold drops_told in
              (drops_by a₁ marked (λ i. why) (drop_told (λ f. get_or w' (r.fates + f) 0) why)
              (λ i p. loud (λ f. get_or w' (r.fates + f) 0) why (get_or r.origins i 0) (marked i) (told_at a₁ s i p ∙ amounts i p ∙ ap (λ (x : ℕ). cond (marked i) x 0) (sym is)))
              (λ f p none. quiet (λ f. get_or w' (r.fates + f) 0) why f (omega (arith, told_off a₁ s f p none, a₁.least f p, is)))));
        }
      where
        -- an amount is the code or none
        apart : (b : Bool) (x d : ℕ) → c < 6 → x ≡ cond b c 0 → 0 < d → d < c → x % 8 ≡ d → ⊥
        apart true x d s e z y q = absurd (omega (arith, e, q))
        apart false x d s e z y q = absurd (omega (arith, e, q))

-- ---- pass 1, which has two reasons

-- the lines of both reasons
abbrev both_told : (ℕ → ℕ) → ℕ → List Line
both_told fate f = drop_told fate for_repeated f ++ drop_told fate for_thin f

-- no fate tells none
both_quiet : (fate : ℕ → ℕ) (f : ℕ) → fate f ≡ 0 → both_told fate f ≡ []
unfolding code
both_quiet fate f e = λ k. quiet fate for_repeated f (omega (arith, e)) k ++ quiet fate for_thin f (omega (arith, e)) k

-- why a face of a shape leaves, and its line
both_loud :
    (fate : ℕ → ℕ) (f : ℕ) (x : Shape) (b : Bool) → is_repeated x ≡ b → fate f ≡ cond (is_repeated x || is_thin x) (cond b 1 2) 0
    → cond (is_repeated x || is_thin x) (dropped_face f (reason_of x) ∷ []) [] ≡ both_told fate f
unfolding is_repeated is_thin reason_of drop_told code
both_loud fate f good b d e = rw e refl
both_loud fate f repeated b d e = rw (e ∙ ap (λ (z : Bool). cond z 1 2) (sym d)) refl
both_loud fate f thin b d e = rw (e ∙ ap (λ (z : Bool). cond z 1 2) (sym d)) refl

module _ {r : Rooms} (a : Stands 0 r) (s : Float) where
  -- what stands, without and with origins, and what is marked of it
  abbrev fs1 : List Face
  fs1 = standing r.faces r.n

  abbrev cs1 : List Face
  cs1 = carried r.faces r.origins r.n

  abbrev ps1 : List Point
  ps1 = points_of r.points

  -- no pass looks at origins
  marks1_are : marked1 s ps1 cs1 ≡ marked1 s ps1 fs1
  marks1_are = sym (λ j i. marked1_alike fs1 cs1 (alike a) s ps1 i j)

  -- nor does the reason
  abbrev reasons : List Face → ℕ → Reason
  reasons fs i = reason_of (shape s ps1 (face fs i))

  reasons_are : reasons cs1 ≡ reasons fs1
  reasons_are = sym (λ j i. reason_of (shape_alike fs1 cs1 (alike a) s ps1 i j))

  -- pass 1 that is off
  pub off1 : PassGives (optional false (pass1 s)) (lines_if false (lines1 s)) first_told 1 2 r r
  off1 = off a (pass1 s) (lines1 s) first_told 1 2 (omega arith) (unfold first_told in (each_none (both_told (fate_in r)) (faces_in r) (λ f l. both_quiet (fate_in r) f (omega (arith, a.least f l)))))

  module _ {marks : ℕ} {w : List ℕ} (mg : MarkGives (marked1 s ps1 fs1) r.n r.n r.work w marks) where
    -- the amount of a place
    shape_is : (i : ℕ) → i < r.n → by_shape r.faces w marks i ≡ cond (marked1 s ps1 fs1 i) (cond (repeats (face fs1 i)) 1 2) 0
    shape_is i h =
        flag_code (marked1 s ps1 fs1 i) (get_or w (marks + i) 0) (why_of (corners_at r.faces i)) (mg.flags.each i h)
        ∙ ap (λ (f : Face). cond (marked1 s ps1 fs1 i) (why_of f) 0) (sym (standing_face r.faces r.n a.fit i h))

    -- pass 1 that is on
    pub on1 :
        {k : ℕ} {w' xs os : List ℕ} → AddGives (by_shape r.faces w marks) r.origins r.n w r.fates w' → LeaveGives (marked1 s ps1 fs1) r.faces r.origins r.n xs os k
        → PassGives (optional true (pass1 s)) (lines_if true (lines1 s)) first_told 1 2 r (rooms r.points xs os k w' r.fates)
    unfolding optional
    on1 {k} {w'} {xs} {os} g l =
        let h : r.n ≤ scratch r = omega (arith, a.own) in
        let a₁ = scratched a h mg.only in
        let t = summed g in
        record {
          stands =
              stands_so a₁ l t 2 (omega arith)
              (λ i q. omega (arith, shape_is i q, cond_most (marked1 s ps1 fs1 i) (cond (repeats (face fs1 i)) 1 2) 0 2 (cond_most (repeats (face fs1 i)) 1 2 2 (omega arith) (omega arith)) (omega arith)))
              (λ i q e. shape_is i q ∙ ap (λ (b : Bool). cond b (cond (repeats (face fs1 i)) 1 2) 0) e);
          changed = changed_by a h mg.only g l;
          became = λ f q. subst (λ (x : ℕ). Became 1 x (get_or w' (r.fates + f) 0)) (fate_kept a h mg.only f) (became_so a₁ t 1 (λ i p d z y e. absurd (omega arith)) f q);
          has = λ m q. has_so m q;
          tells = λ m q. tells_so m q;
        }
      where
        h₀ : r.n ≤ scratch r
        h₀ = omega (arith, a.own)

        has_so : (m : State) → Has m r → Has (pass1 s m) (rooms r.points xs os k w' r.fates)
        has_so m q =
            unfold pass1 counted with_faces in
            (left_has a l q.points (marked1 s m.points m.faces) (ap (leave (marked1 s m.points m.faces)) q.faces) ((λ j. marked1 s (q.points j) (q.faces j)) ∙ marks1_are))

        tells_so : (m : State) → Has m r → lines1 s m ≡ first_told (λ f. get_or w' (r.fates + f) 0) (faces_in r)
        tells_so m q =
            unfold lines1 first_told in
            ((λ j. drops (marked1 s (q.points j) (q.faces j)) (λ i. reason_of (shape s (q.points j) (face (q.faces j) i))) (q.faces j))
            ∙ (λ j. drops (marks1_are j) (reasons_are j) cs1)
            ∙ drops_by (scratched a h₀ mg.only) (marked1 s ps1 fs1) (λ i. reason_of (shape s ps1 (face fs1 i))) (both_told (λ f. get_or w' (r.fates + f) 0))
            (λ i p. unfold marked1 repeated1 thin1 in
            (both_loud (λ f. get_or w' (r.fates + f) 0) (get_or r.origins i 0) (shape s ps1 (face fs1 i)) (repeats (face fs1 i)) (unfold repeated1 in (repeated_is s ps1 fs1 i)) (told_at (scratched a h₀ mg.only) (summed g) i p ∙ (unfold marked1 repeated1 thin1 in (shape_is i p)))))
            (λ f p none. both_quiet (λ f. get_or w' (r.fates + f) 0) f (omega (arith, told_off (scratched a h₀ mg.only) (summed g) f p none, (scratched a h₀ mg.only).least f p))))

-- ---- passes 2 and 3

module _ {r : Rooms} (a : Stands 2 r) where
  -- pass 2 that is off
  pub off2 : PassGives (optional false pass2) (lines_if false lines2) (λ fate. drops_told fate for_duplicate) 3 3 r r
  off2 = off a pass2 lines2 (λ fate. drops_told fate for_duplicate) 3 3 (omega arith) (none_told (fate_in r) for_duplicate (faces_in r) (λ f l. unfold code in (omega (arith, a.least f l))))

  -- pass 2 that is on
  pub on2 :
      {t marks k : ℕ} {w w' xs os : List ℕ} → t ≤ scratch r → MarkGives (marked2 (standing r.faces r.n)) t r.n r.work w marks
      → AddGives (by_flag w marks 3) r.origins r.n w r.fates w' → LeaveGives (marked2 (standing r.faces r.n)) r.faces r.origins r.n xs os k
      → PassGives (optional true pass2) (lines_if true lines2) (λ fate. drops_told fate for_duplicate) 3 3 r (rooms r.points xs os k w' r.fates)
  on2 =
      on a for_duplicate 3 (unfold code in refl) (omega arith) pass2 lines2 (λ ps fs. marked2 fs) (λ m. unfold pass2 dropped counted with_faces in refl)
      (λ m. unfold pass2 dropped counted with_faces in refl) (λ m. unfold lines2 in refl) (λ ps gs fs e. marked2_alike gs fs e)

module _ {r : Rooms} (a : Stands 3 r) where
  -- pass 3 that is off
  pub off3 : PassGives (optional false pass3) (lines_if false lines3) (λ fate. drops_told fate for_edge) 4 4 r r
  off3 = off a pass3 lines3 (λ fate. drops_told fate for_edge) 4 4 (omega arith) (none_told (fate_in r) for_edge (faces_in r) (λ f l. unfold code in (omega (arith, a.least f l))))

  -- pass 3 that is on
  pub on3 :
      {t marks k : ℕ} {w w' xs os : List ℕ} → t ≤ scratch r → MarkGives (marked3 (points_of r.points) (standing r.faces r.n)) t r.n r.work w marks
      → AddGives (by_flag w marks 4) r.origins r.n w r.fates w' → LeaveGives (marked3 (points_of r.points) (standing r.faces r.n)) r.faces r.origins r.n xs os k
      → PassGives (optional true pass3) (lines_if true lines3) (λ fate. drops_told fate for_edge) 4 4 r (rooms r.points xs os k w' r.fates)
  on3 =
      on a for_edge 4 (unfold code in refl) (omega arith) pass3 lines3 marked3 (λ m. unfold pass3 dropped counted with_faces in refl)
      (λ m. unfold pass3 dropped counted with_faces in refl) (λ m. unfold lines3 in refl) (λ ps gs fs e. marked3_alike gs fs e ps)
