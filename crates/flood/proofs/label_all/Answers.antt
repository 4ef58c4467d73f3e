-- `flood::label_all` meets its contract. Assumes nothing.
use mathlib.Core.List.{List}
use Prim.Native.Nat.{ℕ}
use native.Mathlib.Omega.{arith}
use Rattle.rows.proofs.Regions.{only_both}
use Rattle.rule_laws.proofs.Leaders.{label_of}
use Rattle.flood.specs.Plan.{Plan, members, joins, FloodAsks}
use Rattle.flood.specs.Uniting.{UniteGives, NumberAsks, NumberGives}
use Rattle.flood.specs.Answers.{LabelGives}
use Rattle.flood.proofs.Runs.{meets_turns}
use Rattle.flood.proofs.Leading.{part_map}
use Rattle.flood.proofs.label_all.Goals as goal

-- the labels are those of the groups that the runs make
abbrev number_ask : {w : List ℕ} {g : Plan} {w₁ : List ℕ} → UniteGives w g w₁ → NumberAsks w₁ g.labels g.things
number_ask {w} {g} a = record { joined = joins w g; turns = meets_turns (members w g); united = a.united }

-- only the row of labels was written, twice
done : {w : List ℕ} {g : Plan} → FloodAsks w g → {w₁ : List ℕ} → UniteGives w g w₁ → {w₂ : List ℕ} {r : ℕ} → ((p : NumberAsks w₁ g.labels g.things) → NumberGives p w₂ r) → LabelGives w g w₂ r
done {w} {g} q a {w₂} b =
    let o = only_both a.only (b (number_ask a)).only in
    let l = o.long in
    record {
      only = o;
      numbered = part_map w₂ g.labels g.things (label_of (joins w g) g.things) (omega (arith, q.labels_fit)) (b (number_ask a)).numbered;
      count = (b (number_ask a)).count;
    }

pub number_all-requires : goal.number_all-requires
number_all-requires c = let at-unite-all = c.before.before.before in
    number_ask at-unite-all.unite_all.ensures

pub shape_of-work : goal.shape_of-work
shape_of-work c = let at-number-all = c.before.before in
    let at-unite-all = at-number-all.before.before.before.before in
    let start = at-unite-all.before.before.before in
    (done start.requires at-unite-all.unite_all.ensures at-number-all.number_all.ensures).only.long

pub returns : goal.returns
returns c = let at-number-all = c.before.before in
    let at-unite-all = at-number-all.before.before.before.before in
    let start = at-unite-all.before.before.before in
    done start.requires at-unite-all.unite_all.ensures at-number-all.number_all.ensures
