-- The lines up to the first `u` line, one after the other. Assumes nothing.
use mathlib.Core.Path.{◌≡◌, refl, sym, ap, ◌∙◌}
use mathlib.Core.Option.{Option, none, some}
use mathlib.Core.List.{List, [], ◌∷◌, ◌++◌, append-nil, append_assoc}
use Prim.Native.Nat.{ℕ, ◌+◌, ◌*◌, ◌/◌, ◌≤◌, ◌<◌}
use native.Mathlib.Omega.{arith}
use lib.ListN.{length, drop, replicate, length-replicate, length-append}
use Rattle.refuse.specs.declared.Refusal.TheVariants.{BadList}
use Rattle.rules.specs.Mesh.{Point, zero64, faces_of}
use Rattle.rules.specs.Mending as list
use Rattle.rules.specs.Refusal.{ok, no}
use Rattle.rules.specs.Applying.{Bench, bench_of, with_list_line, lines_read, after_lines, no15}
use Rattle.rules.specs.Lists.{through}
use Rattle.rule_laws.proofs.Flat.{length_faces}
use Rattle.list_lines.specs.Lines.{Says}
use Rattle.list_lines.proofs.Letters.{lines_end}
use Rattle.list_check.specs.Standing.{room}
use Rattle.list_check.specs.Steps.{Ready, changed_by, StepBad, Untouched, StepOn, StepAsks, Run, Running, Begins, FirstBad, NoneBad, ToUnused}
use Rattle.list_check.proofs.Order.{room_most}
use Rattle.list_check.proofs.Firsts.{one_more, bad_at, none_bad}
use Rattle.list_check.proofs.Starting.{standing_begin}

-- ---- a run

-- before the first line
run_begin : (ps : List Point) (xs text : List ℕ) → Run ps xs text 0 0 (bench_of ps (faces_of xs))
run_begin ps xs text = record { done = []; lines = refl; long = refl; goes = unfold after_lines through in refl }

-- the rules' counts
with_counts : (ps : List Point) (xs : List ℕ) (P : ℕ) → length ps ≡ P → (b : Bench) (l : Option list.Line) → with_list_line (length ps) (length (faces_of xs)) (some b) l ≡ with_list_line P (length xs / 3) (some b) l
with_counts ps xs P e b l = rw (e, length_faces xs) refl

module _ {ps : List Point} {xs text : List ℕ} {at line : ℕ} {b : Bench} (r : Run ps xs text at line b) (P : ℕ) (n : length ps ≡ P) where
  -- a line more
  pub run_more : {l : list.Line} {e : ℕ} {c : Bench} → Says text at l e → with_list_line P (length xs / 3) (some b) (some l) ≡ some c → Run ps xs text (e + 1) (line + 1) c
  run_more {l} {e} {c} y w =
      record {
        done = r.done ++ (some l ∷ []);
        lines = r.lines ∙ ap (λ (z : List (Option list.Line)). r.done ++ z) y.lines ∙ sym (append_assoc r.done (some l ∷ []) (lines_read (drop (e + 1) text)));
        long = simp length-append (omega (arith, r.long));
        goes = one_more ps (faces_of xs) r.done b c (some l) r.goes (with_counts ps xs P n b (some l) ∙ w);
      }

  -- a bad line
  pub run_bad : {l : Option list.Line} {others : List (Option list.Line)} → lines_read (drop at text) ≡ l ∷ others → with_list_line P (length xs / 3) (some b) l ≡ none → no15 ps (faces_of xs) text ≡ no 15 line
  run_bad {l} {others} y w =
      bad_at ps (faces_of xs) text r.done l others b (r.lines ∙ ap (λ (z : List (Option list.Line)). r.done ++ z) y) r.goes (with_counts ps xs P n b l ∙ w)
      ∙ ap (no 15) r.long

  -- no line is left
  pub run_done : at ≡ length text → no15 ps (faces_of xs) text ≡ ok
  run_done e =
      none_bad ps (faces_of xs) text r.done b (r.lines ∙ ap (λ (z : List (Option list.Line)). r.done ++ z) (lines_end text at e) ∙ append-nil r.done) r.goes

-- ---- the loop

pub record Going (P : ℕ) (xs text m₀ u₀ m u : List ℕ) (at line s f g k : ℕ) : Type 0 where
  pub at_most : at ≤ length text
  pub long_bytes : length m ≡ length m₀
  pub long_bits : length u ≡ length u₀
  pub ready : Ready P xs m u k
  pub counted : line ≤ room (length xs / 3) s f k
  pub each : (ps : List Point) → length ps ≡ P → Running P ps xs text at line m u s f g k

pub going_begin : {P : ℕ} {xs m u : List ℕ} (text : List ℕ) → Begins P xs m u → Going P xs text m u m u 0 0 0 0 0 0
going_begin {P} {xs} {m} {u} text q =
    record {
      at_most = omega arith;
      long_bytes = refl;
      long_bits = refl;
      ready = record { rows = q.rows; small = record { each = λ f. rw (q.no_marks f) (omega arith) }; few = omega arith };
      counted = unfold room in (omega arith);
      each = λ ps n. record { bench = bench_of ps (faces_of xs); run = run_begin ps xs text; standing = standing_begin q ps n };
    }

module _ {P : ℕ} {xs text m₀ u₀ m u : List ℕ} {at line s f g k : ℕ} (i : Going P xs text m₀ u₀ m u at line s f g k) where
  -- some points
  abbrev some-points : List Point
  some-points = replicate P (record { x = zero64; y = zero64; z = zero64 })

  some_run : Running P some-points xs text at line m u s f g k
  some_run = i.each some-points (length-replicate P (record { x = zero64; y = zero64; z = zero64 }))

  -- so many lines at most
  pub going_few : line ≤ 8 * (length xs / 3)
  going_few =
      let st = some_run.standing in
      omega (arith, i.counted, room_most (length xs / 3) s f k st.section st.few st.low)

  pub going_asks : at < length text → StepAsks P xs text at m u k
  going_asks h = record { left = h; ready = i.ready }

  -- a bad line
  pub going_bad : StepBad P xs text at m u s f g k → FirstBad P xs text (BadList line)
  going_bad y =
      record {
        is = λ ps n. let r = i.each ps n in run_bad r.run P n y.lines (y.line.bad r.bench r.standing);
        early = going_few;
      }

  -- a `u` line
  pub going_unused : at < length text → {m' u' : List ℕ} → Untouched text at m u m' u' → ToUnused P xs text m₀ u₀ at line k m' u'
  going_unused h {m'} {u'} y =
      let em = y.same_bytes in
      let eu = y.same_bits in
      rw (em, eu)
      (record {
        left = h;
        early = going_few;
        long_bytes = i.long_bytes;
        long_bits = i.long_bits;
        few = i.ready.few;
        unused = y.unused;
        section = s;
        first = f;
        second = g;
        each = i.each;
      })

  -- a line that applies
  pub going_again : {m' u' : List ℕ} {e s' f' g' k' : ℕ} → StepOn P xs text at m u s f g k m' u' e s' f' g' k' → Going P xs text m₀ u₀ m' u' (e + 1) (line + 1) s' f' g' k'
  going_again {m'} {u'} {e} {s'} {f'} {g'} {k'} y =
      let o = y.on in
      let w = i.ready.rows in
      record {
        at_most = omega (arith, y.says.ends);
        long_bytes = o.long_bytes ∙ i.long_bytes;
        long_bits = o.long_bits ∙ i.long_bits;
        ready = record {
          rows = record { input = w.input; bytes = omega (arith, w.bytes, o.long_bytes); bits = omega (arith, w.bits, o.long_bits) };
          small = o.small;
          few = o.few;
        };
        counted = omega (arith, i.counted, o.rise some_run.bench some_run.standing);
        each = λ ps n.
            let r = i.each ps n in
            let a = o.each r.bench r.standing in
            record { bench = changed_by r.bench y.line; run = run_more r.run P n y.says a.applies; standing = a.standing };
      }

  -- what a turn needs
  pub record Turn (e : ℕ) : Type 0 where
    pub on : at ≤ e
    pub fits : e < length text

  pub going_turn : {m' u' : List ℕ} {e s' f' g' k' : ℕ} → StepOn P xs text at m u s f g k m' u' e s' f' g' k' → Turn e
  going_turn y = record { on = y.says.begins; fits = y.says.ends }

  pub few_lines : line ≤ 8 * 1048576
  few_lines = omega (arith, going_few, i.ready.rows.input.few)

  -- no line is left
  pub going_done : length text ≤ at → NoneBad P xs text
  going_done h = record { is = λ ps n. run_done (i.each ps n).run P n (omega (arith, i.at_most)) }
