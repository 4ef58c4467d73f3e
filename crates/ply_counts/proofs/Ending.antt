-- The outcome of the call: a refusal, or the counts that stand in the file. Assumes nothing.
use Rattle.std.specs.Prelude.{Ok, Err}
use mathlib.Core.Path.{◌≡◌, refl, sym, ap, ap₂, ◌∙◌}
use mathlib.Core.List.{List, [], ◌∷◌}
use Prim.Native.Nat.{ℕ}
use Rattle.rules.specs.Refusal.{ok, no, decided}
use Rattle.rules.specs.Rooms.{outcome}
use Rattle.rules.specs.Ply.{vertices_in, faces_in_is}
use Rattle.rules.specs.PlyCountsCall.{ply_counts_check, ply_counts}
use Rattle.refuse.specs.declared.Refusal.{Refusal}
use Rattle.refuse.specs.Verdicts.{number_of, place_of}
use Rattle.ply_file.specs.Files.{Whole, opening}
use Rattle.ply_counts.specs.Answers.{outcome_of}

-- the checks of the call are those with which reading begins
checks_are : (file : List ℕ) → decided (opening file) ≡ ply_counts_check file
unfolding ply_counts_check
checks_are file = refl

-- what they find is the answer
pub is_refused : (file : List ℕ) (r : Refusal) → no (number_of r) (place_of r) ≡ decided (opening file) → outcome_of (Err r) ≡ ply_counts file
unfolding ply_counts outcome
is_refused file r e = ap (λ c. outcome c tt (vertices_in file ∷ faces_in_is file ∷ []) tt) (e ∙ checks_are file)

-- and where they find nothing, the counts
pub is_done :
    {file : List ℕ} {p f at : ℕ} → Whole file p f at → ok ≡ decided (opening file) → outcome_of (Ok (record { points = p; faces = f })) ≡ ply_counts file
unfolding ply_counts outcome
is_done {file} w e =
    ap₂ (λ (a b : ℕ). outcome ok tt (a ∷ b ∷ []) tt) (sym w.vertices) (sym w.faces)
    ∙ ap (λ c. outcome c tt (vertices_in file ∷ faces_in_is file ∷ []) tt) (e ∙ checks_are file)
