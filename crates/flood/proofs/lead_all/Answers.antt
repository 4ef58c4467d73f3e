-- `flood::lead_all` meets its contract: the root of each thing is the first member of its group. Assumes nothing.
use mathlib.Core.Path.{◌∙◌, sym}
use mathlib.Core.List.{List}
use Prim.Native.Nat.{ℕ}
use native.Mathlib.Omega.{arith}
use Rattle.rows.proofs.Regions.{only_both}
use Rattle.flood.specs.Plan.{Plan, members, joins, FloodAsks}
use Rattle.flood.specs.Parents.{PointAsks, PointGives}
use Rattle.flood.specs.Uniting.{UniteGives}
use Rattle.flood.specs.Answers.{leader_of, LeadGives}
use Rattle.flood.proofs.Runs.{meets_turns}
use Rattle.flood.proofs.Leading.{part_map, leader_root}
use Rattle.flood.proofs.lead_all.Goals as goal

-- the roots are those of the united things
abbrev point_ask : {w : List ℕ} {g : Plan} {w₁ : List ℕ} → UniteGives w g w₁ → PointAsks w₁ g.labels g.things
point_ask a = record { root = a.united.root; forest = a.united.forest }

-- and each root is the first member of its group
done : {w : List ℕ} {g : Plan} → FloodAsks w g → {w₁ : List ℕ} → UniteGives w g w₁ → {w₂ : List ℕ} → ((p : PointAsks w₁ g.labels g.things) → PointGives p w₂) → LeadGives w g w₂
done {w} {g} q a {w₂} b =
    let o = only_both a.only (b (point_ask a)).only in
    let l = o.long in
    record {
      only = o;
      led = part_map w₂ g.labels g.things (leader_of (joins w g) g.things) (omega (arith, q.labels_fit))
          (record { each = λ i h. (b (point_ask a)).roots.each i h ∙ sym (leader_root (meets_turns (members w g)) a.united i h) });
    }

pub point_all-requires : goal.point_all-requires
point_all-requires c = let at-unite-all = c.before.before.before in
    point_ask at-unite-all.unite_all.ensures

pub shape_of-work : goal.shape_of-work
shape_of-work c = let at-point-all = c.before.before in
    let at-unite-all = at-point-all.before.before.before.before in
    let start = at-unite-all.before.before.before in
    (done start.requires at-unite-all.unite_all.ensures at-point-all.point_all.ensures).only.long

pub returns : goal.returns
returns c = let at-point-all = c.before.before in
    let at-unite-all = at-point-all.before.before.before.before in
    let start = at-unite-all.before.before.before in
    done start.requires at-unite-all.unite_all.ensures at-point-all.point_all.ensures
