-- The lines of a text one after the other: what is left of them makes the same of what stands in the rooms. Assumes nothing.
use mathlib.Core.Path.{◌≡◌, refl, sym, ap, ◌∙◌, subst}
use mathlib.Core.Option.{Option, none, some}
use mathlib.Core.List.{List, []}
use Prim.Native.Nat.{ℕ, ◌≤◌, ◌<◌}
use native.Mathlib.Omega.{arith}
use lib.Ieee.{Float}
use lib.ListN.{length, drop}
use lib.Seq.{drop-length}
use Rattle.std.specs.Prelude as std
use Rattle.std.specs.Prelude.{Some, IsSome}
use Rattle.list_runs.proofs.Stepping.{no_step}
use Rattle.rows.proofs.Regions.{only_none, only_both}
use Rattle.rules.specs.Lists.{through}
use Rattle.rules.specs.Text.{parted}
use Rattle.rules.specs.Applying.{Bench, with_list_line, lines_read, pieces_read}
use Rattle.list_lines.specs.declared.Line.{Line}
use Rattle.list_lines.specs.Lines.{Reads}
use Rattle.list_changes.specs.Changes.{Stands}
use Rattle.apply_lines.specs.Runs.{Run, Within, LineAsks, LineGives, RunAsks, RunGives}

-- two steps within the stated rooms
pub within_both :
    {P F : ℕ} {ps : List Float} {xs w : List ℕ} {ps' : List Float} {xs' w' : List ℕ} {ps'' : List Float} {xs'' w'' : List ℕ}
    → Within P F ps xs w ps' xs' w' → Within P F ps' xs' w' ps'' xs'' w'' → Within P F ps xs w ps'' xs'' w''
within_both p q = record { only_points = only_both p.only_points q.only_points; only_faces = only_both p.only_faces q.only_faces; only_work = only_both p.only_work q.only_work }

-- the loop's invariant
pub record Ran (text : List ℕ) (ps₀ : List Float) (xs₀ w₀ : List ℕ) (F p : ℕ) (ps : List Float) (xs w : List ℕ) (at n : ℕ) : Type 0 where
  pub inside : at ≤ length text
  pub runs : (q : RunAsks text ps₀ xs₀ w₀ F p) → Run q.P F q.z text at ps xs w n
  pub within : (q : RunAsks text ps₀ xs₀ w₀ F p) → Within q.P F ps₀ xs₀ w₀ ps xs w

-- before the first line
pub begin : {text : List ℕ} {ps : List Float} {xs w : List ℕ} {F p : ℕ} → Ran text ps xs w F p ps xs w 0 p
begin = record { inside = omega arith; runs = λ q. q.run; within = λ q. record { only_points = only_none _ _ _; only_faces = only_none _ _ _; only_work = only_none _ _ _ } }

-- at the end of the text no line is left
no_lines : (text : List ℕ) (at : ℕ) → at ≡ length text → lines_read (drop at text) ≡ []
unfolding lines_read pieces_read parted
no_lines text at e = rw (e, drop-length text) refl

-- the bench that stands is the one that is made
only_bench : (b z : Bench) → some b ≡ some z → b ≡ z
only_bench b z e = ap out e
  where
    out : Option Bench → Bench
    out none = b
    out (some c) = c

-- no line is bad
pub line_there : {text : List ℕ} {ps₀ : List Float} {xs₀ w₀ : List ℕ} {F p : ℕ} {ps : List Float} {xs w : List ℕ} {at n : ℕ} → Ran text ps₀ xs₀ w₀ F p ps xs w at n → RunAsks text ps₀ xs₀ w₀ F p
    → (o : std.Option Line) → Reads text at o → IsSome o
line_there v q (Some l) r = refl
line_there v q std.None r =
    let u = v.runs q in
    absurd (no_step q.P _ u.bench r.others q.z (sym (ap (through (with_list_line q.P _) (some u.bench)) r.lines) ∙ u.goes))

module _ {text : List ℕ} {ps₀ : List Float} {xs₀ w₀ : List ℕ} {F p : ℕ} {ps : List Float} {xs w : List ℕ} {at n : ℕ} (v : Ran text ps₀ xs₀ w₀ F p ps xs w at n) where
  module _ {line : Line} (r : Reads text at (Some line)) where
    -- the next line
    abbrev pub line-asks : RunAsks text ps₀ xs₀ w₀ F p → LineAsks text line ps xs w F n
    line-asks q = record { P = q.P; z = q.z; at = at; reads = r; run = v.runs q }

    module _ {ps' : List Float} {xs' w' : List ℕ} {n' next : ℕ} (g : (q : LineAsks text line ps xs w F n) → LineGives q ps' xs' w' n' next) where
      -- is behind this one
      pub goes_on : RunAsks text ps₀ xs₀ w₀ F p → (at < next) × (next ≤ length text)
      goes_on q = let l = g (line-asks q) in (l.on, l.inside)

      -- after it the others are left
      pub again : RunAsks text ps₀ xs₀ w₀ F p → Ran text ps₀ xs₀ w₀ F p ps' xs' w' next n'
      again p =
          record {
            inside = (g (line-asks p)).inside;
            runs = λ q. (g (line-asks q)).run;
            within = λ q. within_both (v.within q) (g (line-asks q)).within;
          }

  -- after the last line
  pub done : length text ≤ at → (q : RunAsks text ps₀ xs₀ w₀ F p) → RunGives q ps xs w n
  unfolding through
  done h q =
      let r = v.runs q in
      let e : at ≡ length text = omega (arith, v.inside) in
      record {
        stands = subst (λ b. Stands q.P F b ps n xs w) (only_bench r.bench q.z (sym (ap (through (with_list_line q.P F) (some r.bench)) (no_lines text at e)) ∙ r.goes)) r.stands;
        within = v.within q;
      }
