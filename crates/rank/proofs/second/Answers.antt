-- `rank::second` meets its contract: the best of those that walk otherwise, or, if none does, the best of the rest. Assumes nothing.
use mathlib.Core.Path.{◌≡◌, ◌∙◌}
use mathlib.Core.Bool.{Bool}
use mathlib.Core.List.{List}
use Prim.Native.Nat.{ℕ, ◌/◌, ◌≤◌, ◌<◌}
use native.Mathlib.Omega.{arith}
use lib.ListN.{length, length-map}
use lib.Ieee.{Float}
use Rattle.std.specs.Prelude.{Option, None, Some, IsSome}
use Rattle.rules.specs.Mesh.{face, faces_of}
use Rattle.rules.specs.Steps.{Step, walks}
use Rattle.rules.specs.Rank.{without}
use Rattle.rules.specs.Pass3.{second}
use Rattle.rule_laws.proofs.Rising.{All}
use Rattle.rank.specs.declared.Choice.{Choice}
use Rattle.rank.specs.Ranks.{faces_in, count, value_of, pick, others, face_or, OtherGives, RestGives, SecondAsks}
use Rattle.rank.proofs.RankLaws.{run_all, all_others, all_without, without_long, second_some, second_none, pick_some, face_some, face_of_some}
use Rattle.rank.proofs.second.Goals as goal

module _ {ps : List Float} {xs run : List ℕ} {one : ℕ} (p : SecondAsks ps xs run one) where
  faces_in_is : All (λ x. x < count xs) (faces_in run)
  faces_in_is = run_all p.rank

  two : 1 < length (faces_in run)
  two = rw (length-map run (λ id. id / 3)) p.two

  -- the rest has a best
  rest_some : {r : Option Choice} → RestGives ps xs run one r → IsSome r
  rest_some {r} g =
      let a = all_without (λ x. x < count xs) one (faces_in run) faces_in_is in
      face_some {F = count xs} r (rw g.picked (pick_some (count xs) (value_of ps xs) (without one (faces_in run)) a (omega (arith, two, without_long one (faces_in run)))).1)

  module _ {s : Step} {f : Bool} (ef : f ≡ walks (face (faces_of xs) one) s) {o : Option Choice} (g : OtherGives ps xs run s f o) where
    abbrev os : List ℕ
    os = others (faces_of xs) s (walks (face (faces_of xs) one) s) (faces_in run)

    os_in : All (λ x. x < count xs) os
    os_in = all_others (λ x. x < count xs) (faces_of xs) s (walks (face (faces_of xs) one) s) (faces_in run) faces_in_is

    picked : face_or (count xs) o ≡ pick (count xs) (value_of ps xs) (count xs) os
    picked = rw ef at g.picked

    -- some walk otherwise
    some : {b : Choice} → o ≡ Some b → b.face ≡ second (value_of ps xs) one (faces_in run) os
    some {b} e =
        let chosen = rw e at g.chosen in
        second_some (count xs) (value_of ps xs) one (faces_in run) faces_in_is two os os_in b.face (face_of_some (count xs) e ∙ picked) chosen.here

    -- none does
    rest : o ≡ None → {r : Option Choice} {b : Choice} → RestGives ps xs run one r → r ≡ Some b → b.face ≡ second (value_of ps xs) one (faces_in run) os
    rest n q e =
        let least : count xs ≤ face_or (count xs) o = rw n (omega arith) in
        face_of_some (count xs) e ∙ q.picked ∙ second_none (count xs) (value_of ps xs) one (faces_in run) faces_in_is two os os_in (face_or (count xs) o) picked least

pub returns-in-Some : goal.returns-in-Some
returns-in-Some c = some c.requires c.walks-forward.ensures c.scan_other-other.ensures c.in-Some.is

pub unwrap-requires : goal.unwrap-requires
unwrap-requires c = rest_some c.requires c.scan_rest.ensures

pub returns : goal.returns
returns c = rest c.requires c.walks-forward.ensures c.scan_other-other.ensures c.in_default.is c.scan_rest.ensures c.unwrap.ensures
