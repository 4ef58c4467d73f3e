-- The text that is read, and the answer to the job that it asks for: the whole program. Assumes nothing.
use Rattle.std.specs.Prelude.{Some, None}
use mathlib.Core.Path.{◌≡◌, sym, subst}
use mathlib.Core.List.{List}
use Prim.Native.Nat.{ℕ, ◌≤◌}
use native.Mathlib.Omega.{arith}
use lib.Ieee.{Float}
use lib.ListN.{length, take}
use Rattle.byte_rows.specs.Put.{Puts}
use Rattle.rules.specs.Text.{read, refusal_line, answered, meshfix}
use Rattle.text_in.specs.Asked.{told_of, ToldWithin}
use Rattle.text_in.specs.declared.Told.{Told}
use Rattle.text_in.proofs.Sizes.{read_sized}
use Rattle.mend_text.specs.Job.{job_of, lines, MendAsks}

module _ (text : List ℕ) (ps : List Float) (fs : List ℕ) where
  -- no job is refused 11
  pub puts_bad : told_of None ps fs ≡ read text → {out out' : List ℕ} {end : ℕ} → Puts out 0 (refusal_line 11) out' end → Puts out 0 (meshfix text) out' end
  unfolding meshfix answered
  puts_bad e {out} {out'} {end} g = subst (λ z. Puts out 0 (answered z) out' end) e g

  module _ (t : Told) (e : told_of (Some t) ps fs ≡ read text) where
    -- its parts stand in the rooms
    pub points_in : ToldWithin (Some t) → length ps ≡ 192 → t.points ≤ length ps
    points_in h l = omega (arith, h.0)

    pub faces_in_is : ToldWithin (Some t) → length fs ≡ 192 → t.faces ≤ length fs
    faces_in_is h l = omega (arith, h.1)

    -- it is small
    pub mend_asks : {out : List ℕ} → 16384 ≤ length out → MendAsks (take t.points ps) (take t.faces fs) out
    mend_asks r =
        let z = read_sized text (job_of t.options t.threshold (take t.points ps) (take t.faces fs)) (sym e) in
        record { whole_points = z.points; whole_faces = z.faces; few_points = z.few_points; few_faces = z.few_faces; room = r }

    -- its answer is the text's
    pub puts_answer : {out out' : List ℕ} {end : ℕ} → Puts out 0 (lines t.options t.threshold (take t.points ps) (take t.faces fs)) out' end → Puts out 0 (meshfix text) out' end
    unfolding meshfix answered
    puts_answer {out} {out'} {end} g = subst (λ z. Puts out 0 (answered z) out' end) e g
