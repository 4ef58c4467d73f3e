-- Rows that hold what passes 5 and 6 do tell their lines. Assumes nothing.
use mathlib.Core.Path.{◌≡◌, sym, ap, ap₂, ◌∙◌}
use mathlib.Core.Bool.{Bool, cond}
use mathlib.Core.List.{List, [], ◌∷◌, map}
use Prim.Native.Nat.{ℕ, ◌+◌, ◌<◌}
use lib.ListN.{length}
use Rattle.rules.specs.Lists.{below, each}
use Rattle.rules.specs.State.{State}
use Rattle.rules.specs.Pass5.{pass5}
use Rattle.rules.specs.Pass6.{marked6}
use Rattle.rules.specs.Mending.{Line, split_point, isolated_point, lines5, lines6}
use Rattle.rule_laws.proofs.Rising.{map_same}
use Rattle.rule_laws.proofs.Once.{Inside}
use Rattle.splitting.proofs.Agreeing.{each_agree, on_below}
use Rattle.mending_rows.specs.Told.{Fates, splits_told, unused_told}
use Rattle.split_laws.specs.Olds.{old_of, takers_of}
use Rattle.split_laws.proofs.Lines.{splits, lines5_are}

-- a row of old points, and who takes each new one: the lines of pass 5
pub lines5_told :
    (m : State) (inside : Inside (length m.points) m.faces) (t : Fates) → t.splits ≡ splits m inside
    → ((j : ℕ) → j < splits m inside → t.old j ≡ old_of m.faces (length m.points) j)
    → ((j : ℕ) → j < splits m inside → t.takers j ≡ takers_of m.faces (pass5 m).faces (length m.points + j))
    → lines5 m ≡ splits_told (length m.points) t
unfolding splits_told
lines5_told m inside t e olds takers =
    let P = length m.points in
    let rule : ℕ → Line = λ j. split_point (old_of m.faces P j) (P + j) (takers_of m.faces (pass5 m).faces (P + j)) in
    let row : ℕ → Line = λ j. split_point (t.old j) (P + j) (t.takers j) in
    lines5_are m inside
    ∙ map_same rule row (below (splits m inside)) (on_below (λ j. rule j ≡ row j) (splits m inside) (λ j h. ap₂ (λ a b. split_point a (P + j) b) (sym (olds j h)) (sym (takers j h))))
    ∙ ap (λ n. map row (below n)) (sym e)

-- flags of the unused points: the lines of pass 6
pub lines6_told :
    (m : State) (P : ℕ) (t : Fates) → length m.points ≡ P + t.splits → ((v : ℕ) → v < P + t.splits → t.unused v ≡ marked6 m.faces v)
    → lines6 m ≡ unused_told P t
unfolding lines6 unused_told
lines6_told m P t e flags =
    let rule : ℕ → List Line = λ v. cond (marked6 m.faces v) (isolated_point v ∷ []) [] in
    let row : ℕ → List Line = λ v. cond (t.unused v) (isolated_point v ∷ []) [] in
    ap (λ n. each rule (below n)) e
    ∙ each_agree rule row (below (P + t.splits)) (on_below (λ v. rule v ≡ row v) (P + t.splits) (λ v h. ap (λ (b : Bool). cond b (isolated_point v ∷ []) []) (sym (flags v h))))
