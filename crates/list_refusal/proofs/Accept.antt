-- What an accepted input may start from, and that its text fits into an ample room. Assumes nothing.
use mathlib.Core.Path.{◌≡◌, refl}
use mathlib.Core.List.{List, [], ◌∷◌, ◌++◌}
use Prim.Native.Nat.{ℕ, ◌+◌, ◌*◌, ◌/◌, ◌≤◌}
use native.Mathlib.Omega.{arith}
use lib.ListN.{length}
use lib.Ieee.{Float}
use Rattle.rules.specs.Mesh.{points_of, faces_of}
use Rattle.rules.specs.Refusal.{ok, decided, no6}
use Rattle.rules.specs.Mending.{list_text}
use Rattle.rules.specs.ListCall.{list_rooms, ListRooms, list_check}
use Rattle.rule_laws.proofs.Decided.{decided_all}
use Rattle.rule_laws.proofs.Flat.{length_points, length_faces}
use Rattle.refuse.proofs.Accept.{input_from, options_fine}
use Rattle.mending_laws.proofs.Bounded.{text_bounded}
use Rattle.mending_laws.proofs.InCalls.{input_of}
use Rattle.list_refusal.specs.Checks.{input_list, InputAccepted}

-- the rules' check is that of the input, and then 6
pub list_is :
    (points : List Float) (faces : List ℕ) (s : Float) (options : ℕ) (r : ListRooms)
    → decided (input_list points faces s options ++ (no6 (list_rooms (list_text s options (points_of points) (faces_of faces)) (length points / 3) (length faces / 3)) (length r.text ∷ length r.work ∷ []) ∷ []))
    ≡ list_check points faces s options r
unfolding list_check
list_is points faces s options r = refl

module _ (points : List Float) (faces : List ℕ) (s : Float) (options : ℕ) (q : decided (input_list points faces s options) ≡ ok) where
  -- where nothing is found the input is good
  pub input_accepted : InputAccepted points faces options
  input_accepted =
      let r = decided_all (input_list points faces s options) q in
      record {
        input = input_from points faces r.0 r.1.0 r.1.1.0 r.1.1.1.0 r.1.1.1.1.1.1.0 r.1.1.1.1.1.1.1.0;
        settings = options_fine options r.1.1.1.1.1.0;
      }

  -- and the text has at most 10P + 118F bytes
  pub text_fits : length (list_text s options (points_of points) (faces_of faces)) ≤ 10 * (length points / 3) + 118 * (length faces / 3)
  text_fits =
      let r = decided_all (input_list points faces s options) q in
      let i = input_of points faces r.1.1.0 r.1.1.1.0 r.1.1.1.1.1.1.1.0 in
      omega (arith, text_bounded s options (points_of points) (faces_of faces) i.inside i.rise i.names i.few_points i.few_faces, length_points points, length_faces faces)
