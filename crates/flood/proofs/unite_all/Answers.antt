-- `flood::unite_all` meets its contract. Assumes nothing.
use mathlib.Core.Path.{subst}
use mathlib.Core.List.{List}
use Prim.Native.Nat.{ℕ}
use Rattle.rows.proofs.Regions.{only_both}
use Rattle.flood.specs.Plan.{plan, meets, FloodAsks}
use Rattle.flood.specs.Parents.{OwnGives}
use Rattle.flood.specs.Uniting.{United, AllAsks, AllGives, UniteGives}
use Rattle.flood.proofs.Runs.{asks_kept, members_kept}
use Rattle.flood.proofs.unite_all.Goals as goal

module _ {w : List ℕ} {things runs starts order labels : ℕ} (q : FloodAsks w (plan things runs starts order labels)) {w₁ : List ℕ} (a : OwnGives w labels things w₁) where
  -- the rows but the labels are as they were
  abbrev all_ask : AllAsks w₁ runs starts order labels
  all_ask = record { things = things; asks = asks_kept q a.only; own = a.own }

  -- so the runs, and what they join, are the same
  done : {w₂ : List ℕ} → ((p : AllAsks w₁ runs starts order labels) → AllGives p w₂) → UniteGives w (plan things runs starts order labels) w₂
  done {w₂} b =
      record {
        only = only_both a.only (b all_ask).only;
        united = subst (λ (rs : List (List ℕ)). United (meets rs) labels things w₂) (members_kept q a.only) (b all_ask).united;
      }

pub join_all-requires : goal.join_all-requires
join_all-requires c = let at-own-all = c.before.before.before in
    let start = at-own-all.before.before.before in
    all_ask start.requires at-own-all.own_all.ensures

pub shape_of-work : goal.shape_of-work
shape_of-work c = let at-join-all = c.before.before in
    let at-own-all = at-join-all.before.before.before.before in
    let start = at-own-all.before.before.before in
    (done start.requires at-own-all.own_all.ensures at-join-all.join_all.ensures).only.long

pub returns : goal.returns
returns c = let at-join-all = c.before.before in
    let at-own-all = at-join-all.before.before.before.before in
    let start = at-own-all.before.before.before in
    done start.requires at-own-all.own_all.ensures at-join-all.join_all.ensures
