-- The `u` lines, one after the other: points that rise, that are there and that no face has. Assumes nothing.
use mathlib.Core.Path.{◌≡◌, refl, sym, ap, ◌∙◌, subst}
use mathlib.Core.Bool.{Bool, true, false, not, cond, ◌&&◌, ◌||◌}
use mathlib.Core.Option.{Option, none, some}
use mathlib.Core.List.{List, [], ◌∷◌}
use Prim.Native.Nat.{ℕ, ◌+◌, ◌/◌, ◌≤◌, ◌<◌}
use native.Mathlib.Omega.{arith}
use native.Mathlib.Numerals.{add-one}
use borrow.Author.Tests.{le-leb, lt-leb, lt-ltb, le-ltb, ne_eqb}
use lib.Dec.{eqb, ltb, leb}
use lib.ListN.{length, drop}
use Rattle.rules.specs.Mesh.{Point, faces_of}
use Rattle.rules.specs.Mending as list
use Rattle.rules.specs.Mending.{Reason, for_repeated, for_thin, for_duplicate, for_edge, for_direction}
use Rattle.rules.specs.Refusal.{no}
use Rattle.rules.specs.Pass6.{used}
use Rattle.rules.specs.Applying.{Bench, applies, change, section, numbers, precedes, with_list_line, lines_read, no15}
use Rattle.std.specs.Prelude.{Ok, Err}
use Rattle.refuse.specs.declared.Refusal.TheVariants.{BadList}
use Rattle.list_lines.specs.Lines.{Says, SaysNothing, SaysSplit, faces_from_row}
use Rattle.point_bits.specs.Bits.{bit}
use Rattle.list_check.specs.Steps.{changed_by, Run, OtherLine, UnusedAsks, Before, UnusedGives}
use Rattle.list_check.proofs.Anys.{and_false}
use Rattle.list_check.proofs.Looping.{run_more, run_bad, run_done}

-- ---- other lines

-- a dropped face is of an earlier section
dropped_early : (f : ℕ) (why : Reason) → section (list.dropped_face f why) < 7
unfolding section
dropped_early f for_repeated = omega arith
dropped_early f for_thin = omega arith
dropped_early f for_duplicate = omega arith
dropped_early f for_edge = omega arith
dropped_early f for_direction = omega arith

exchange_early : (f : ℕ) → section (list.exchange f) < 7
unfolding section
exchange_early f = omega arith

split_early : (old new : ℕ) (fs : List ℕ) → section (list.split_point old new fs) < 7
unfolding section
split_early old new fs = omega arith

-- a line of an earlier section
other_of : {text : List ℕ} {at : ℕ} {l : list.Line} {end : ℕ} → Says text at l end → section l < 7 → OtherLine text at
other_of {text} {at} {l} {end} y h =
    record {
      head = some l;
      others = lines_read (drop (end + 1) text);
      lines = y.lines;
      early = λ k e. let q : l ≡ k = cc in subst (λ (z : list.Line). section z < 7) q h;
    }

pub other_none : {text : List ℕ} {at : ℕ} → SaysNothing text at → OtherLine text at
other_none {text} {at} y =
    record { head = none; others = y.others; lines = y.lines; early = λ l e. let z : ◌≡◌ {A = ℕ} 0 1 = cc in absurd (omega arith) }

pub other_dropped : {text : List ℕ} {at f end : ℕ} {why : Reason} → Says text at (list.dropped_face f why) end → OtherLine text at
other_dropped {text} {at} {f} {end} {why} y = other_of y (dropped_early f why)

pub other_exchange : {text : List ℕ} {at f end : ℕ} → Says text at (list.exchange f) end → OtherLine text at
other_exchange {text} {at} {f} y = other_of y (exchange_early f)

pub other_split : {text : List ℕ} {at old new from end : ℕ} → SaysSplit text at old new from end → OtherLine text at
other_split {text} {at} {old} {new} {from} {end} y = other_of y.says (split_early old new (faces_from_row text from end))

-- ---- the loop

-- what stands, and which point may be next
pub record UnusedRun (ps : List Point) (xs text : List ℕ) (at line bound : ℕ) (u : List ℕ) (least : ℕ) : Type 0 where
  pub bench : Bench
  pub run : Run ps xs text at line bench
  pub points : length bench.points ≡ bound
  pub told : (v : ℕ) → v < bound → bit u v ≡ used bench.faces v
  pub order : (v : ℕ) → precedes bench.last (7 ∷ v ∷ []) ≡ leb least v
  pub only : (l : list.Line) (others : List (Option list.Line)) → lines_read (drop at text) ≡ some l ∷ others → section l < 7 → precedes bench.last (section l ∷ numbers l) ≡ false

pub record Unusing (text : List ℕ) (from number bound : ℕ) (u : List ℕ) (at line least : ℕ) : Type 0 where
  pub at_most : at ≤ length text
  pub counted : line ≤ number + least
  pub low : least ≤ bound
  pub each : (ps : List Point) (xs : List ℕ) (b : Bench) → Before ps xs text from number bound u b → UnusedRun ps xs text at line bound u least

-- the first of them
pub unusing_begin : {text : List ℕ} {from number bound : ℕ} {u : List ℕ} → UnusedAsks text from number bound u → Unusing text from number bound u from number 0
unusing_begin {text} {from} {number} {bound} {u} p =
    record {
      at_most = p.begins;
      counted = omega arith;
      low = omega arith;
      each = λ ps xs b q.
          record {
            bench = b;
            run = q.run;
            points = q.points;
            told = q.told;
            order = λ v. q.earlier v ∙ sym (le-leb 0 v (omega arith));
            only = λ l others e h.
                let y : some l ∷ others ≡ some (list.isolated_point q.unused.point) ∷ lines_read (drop (q.unused.end + 1) text) = sym e ∙ q.unused.says.lines in
                let z : l ≡ list.isolated_point q.unused.point = cc in
                absurd (never q.unused.point (subst (λ (k : list.Line). section k < 7) z h));
          };
    }
  where
    never : (v : ℕ) → section (list.isolated_point v) < 7 → ⊥
    never v h = seven v (section (list.isolated_point v)) (unfold section in refl) h
      where
        seven : (w s : ℕ) → s ≡ 7 → s < 7 → ⊥
        seven w s e l = omega arith

-- a `u` line by order and by what stands
with_unused : (P F : ℕ) (b : Bench) (v : ℕ) → with_list_line P F (some b) (some (list.isolated_point v)) ≡ cond (precedes b.last (7 ∷ v ∷ []) && (ltb v (length b.points) && not (used b.faces v))) (some (changed_by b (list.isolated_point v))) none
unfolding with_list_line section numbers applies
with_unused P F b v = refl

-- another line by order
with_other : (P F : ℕ) (b : Bench) (l : list.Line) → precedes b.last (section l ∷ numbers l) ≡ false → with_list_line P F (some b) (some l) ≡ none
unfolding with_list_line
with_other P F b l e = rw e refl

module _ {text : List ℕ} {from number bound : ℕ} {u : List ℕ} (p : UnusedAsks text from number bound u) {at line least : ℕ} (i : Unusing text from number bound u at line least) where
  -- within the bound
  placed : line ≤ number + bound
  placed = omega (arith, i.counted, i.low)

  -- what the loop's bad lines give
  gives : ((ps : List Point) (xs : List ℕ) → UnusedRun ps xs text at line bound u least → no15 ps (faces_of xs) text ≡ no 15 line) → UnusedGives text from number bound u (Err (BadList line))
  gives h = record { placed = placed; is = λ ps xs b q. sym (h ps xs (i.each ps xs b q)) }

  -- another line
  pub unusing_other : OtherLine text at → UnusedGives text from number bound u (Err (BadList line))
  unusing_other y = gives (λ ps xs r. run_bad r.run (length ps) refl y.lines (go ps xs r y.head refl))
    where
      go : (ps : List Point) (xs : List ℕ) (r : UnusedRun ps xs text at line bound u least) (o : Option list.Line) → y.head ≡ o → with_list_line (length ps) (length xs / 3) (some r.bench) y.head ≡ none
      go ps xs r none e = rw e (unfold with_list_line in refl)
      go ps xs r (some l) e = rw e (with_other (length ps) (length xs / 3) r.bench l (r.only l y.others (y.lines ∙ ap (λ (o : Option list.Line). o ∷ y.others) e) (y.early l e)))

  module _ {v end : ℕ} (y : Says text at (list.isolated_point v) end) where
    -- a point that does not rise
    pub unusing_low : v < least → UnusedGives text from number bound u (Err (BadList line))
    unusing_low h =
        gives (λ ps xs r. run_bad r.run (length ps) refl y.lines (with_unused (length ps) (length xs / 3) r.bench v ∙ rw (r.order v, lt-leb least v h) refl))

    -- one that is not there
    pub unusing_absent : bound ≤ v → UnusedGives text from number bound u (Err (BadList line))
    unusing_absent h =
        gives
        (λ ps xs r.
        run_bad r.run (length ps) refl y.lines
        (with_unused (length ps) (length xs / 3) r.bench v ∙ rw (r.points, le-ltb v bound h, and_false (precedes r.bench.last (7 ∷ v ∷ []))) refl))

    -- one that a face has
    pub unusing_used : v < bound → true ≡ bit u v → UnusedGives text from number bound u (Err (BadList line))
    unusing_used h e =
        gives
        (λ ps xs r.
        run_bad r.run (length ps) refl y.lines
        (with_unused (length ps) (length xs / 3) r.bench v
        ∙ rw (sym (r.told v h) ∙ sym e, and_false (ltb v (length r.bench.points)), and_false (precedes r.bench.last (7 ∷ v ∷ []))) refl))

    -- the bit is there
    pub unusing_room : v < bound → v / 32 < length u
    unusing_room h = omega (arith, p.bits)

    -- it applies
    pub unusing_again : least ≤ v → v < bound → false ≡ bit u v → Unusing text from number bound u (end + 1) (line + 1) (v + 1)
    unusing_again l h e =
        record {
          at_most = omega (arith, y.ends);
          counted = omega (arith, i.counted);
          low = omega arith;
          each = λ ps xs b q.
              let r = i.each ps xs b q in
              record {
                bench = changed_by r.bench (list.isolated_point v);
                run = run_more r.run (length ps) refl y (with_unused (length ps) (length xs / 3) r.bench v ∙ rw (r.order v, le-leb least v l, sym (r.told v h) ∙ sym e, r.points, lt-ltb v bound h) refl);
                points = unfold change in r.points;
                told = λ w k. r.told w k ∙ (unfold change in refl);
                order = λ w. after r.bench w;
                only = λ k others q h. closed r.bench k h;
              };
        }
      where
        last : (b : Bench) → (changed_by b (list.isolated_point v)).last ≡ 7 ∷ v ∷ []
        last b = unfold change section numbers in refl

        after : (b : Bench) (w : ℕ) → precedes (changed_by b (list.isolated_point v)).last (7 ∷ w ∷ []) ≡ leb (v + 1) w
        after b w = ap (λ (z : List ℕ). precedes z (7 ∷ w ∷ [])) (last b) ∙ rw add-one (unfold precedes in (or_false (ltb v w) (eqb v w)))
          where
            or_false : (a c : Bool) → (a || (c && false)) ≡ a
            or_false true c = refl
            or_false false true = refl
            or_false false false = refl

        closed : (b : Bench) (k : list.Line) → section k < 7 → precedes (changed_by b (list.isolated_point v)).last (section k ∷ numbers k) ≡ false
        closed b k h =
            ap (λ (z : List ℕ). precedes z (section k ∷ numbers k)) (last b)
            ∙ (unfold precedes in (rw (le-ltb 7 (section k) (omega arith), ne_eqb 7 (section k) (λ e. absurd (omega arith))) refl))

  -- what a turn needs
  pub record Turn (v end : ℕ) : Type 0 where
    pub on : at ≤ end
    pub fits : end < length text

  pub unusing_turn : {v end : ℕ} → Says text at (list.isolated_point v) end → Turn v end
  unusing_turn y = record { on = y.begins; fits = y.ends }

  pub few_lines : line ≤ number + bound
  few_lines = placed

  -- no line is left
  pub unusing_done : length text ≤ at → UnusedGives text from number bound u (Ok tt)
  unusing_done h = record { placed = tt; is = λ ps xs b q. sym (run_done (i.each ps xs b q).run (length ps) refl (omega (arith, i.at_most))) }
