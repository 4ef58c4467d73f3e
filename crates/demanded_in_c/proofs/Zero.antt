-- To C the number 0 says that a call was accepted, and its entries are then the rules': no refusal has that number. Of the edge check the 1 says it, as all
-- entries of a refusal are 0; and a number is a refusal's or 0. Assumes nothing.
use mathlib.Core.Path.{◌≡◌, sym, ap, ◌∙◌, subst}
use mathlib.Core.List.{List, [], ◌∷◌}
use Prim.Native.Nat.{ℕ, ◌<◌}
use native.Mathlib.Omega.{arith}
use lib.ListN.{length, get_or, drop}
use Rattle.rules.specs.Rooms.{Answer, accepted, refused, Outcome}
use Rattle.rule_laws.proofs.Called.{IfRefused}
use Rattle.shell.specs.Told.{Given, told}
use Rattle.one_answer.proofs.Numbered.{Numbered}

-- an answer that is told by 0 is accepted, with the entries that are told
told_zero :
    (a : Answer) (number place : ℕ) (entries : List ℕ) → Numbered a → number ≡ 0 → number ∷ place ∷ entries ≡ told (length entries) a → a ≡ accepted entries
told_zero (accepted k) number place entries h zero e = ap (λ l. accepted (drop 2 l)) (sym e)
told_zero (refused n p) number place entries h zero e =
    let k : number ≡ n = ap (λ l. get_or l 0 0) e in
    absurd (omega arith)

-- a call of number 0 is accepted
pub zero_accepted :
    {R : Type 0} {o : Outcome R} {number place : ℕ} {entries : List ℕ} {rooms : R} → Numbered o.answer → Given number place entries rooms o → number ≡ 0
    → o.answer ≡ accepted entries
zero_accepted {R} {o} {number} {place} {entries} h g zero = told_zero o.answer number place entries h zero g.answer

-- a call that is accepted has number 0
pub accepted_zero :
    {R : Type 0} {o : Outcome R} {number place : ℕ} {entries k : List ℕ} {rooms : R} → o.answer ≡ accepted k → Given number place entries rooms o → number ≡ 0
accepted_zero {R} {o} {number} {place} {entries} a g = ap (λ l. get_or l 0 0) (g.answer ∙ ap (told (length entries)) a)

-- an answer that is told with the one entry 1 is accepted with it
told_one : (a : Answer) (number place entry : ℕ) → entry ≡ 1 → number ∷ place ∷ entry ∷ [] ≡ told 1 a → a ≡ accepted (1 ∷ [])
told_one (accepted k) number place entry one e = ap (λ l. accepted (drop 2 l)) (sym e) ∙ ap (λ n. accepted (n ∷ [])) one
told_one (refused n p) number place entry one e =
    let k : entry ≡ 0 = ap (λ l. get_or l 2 0) e in
    absurd (omega arith)

-- a call of one entry that gives 1 is accepted with it
pub one_accepted : {R : Type 0} {o : Outcome R} {number place entry : ℕ} {rooms : R} → Given number place (entry ∷ []) rooms o → entry ≡ 1 → o.answer ≡ accepted (1 ∷ [])
one_accepted {R} {o} {number} {place} {entry} g one = told_one o.answer number place entry one g.answer

-- where a refusal's number is below k, so is the number told
told_below : (k : ℕ) (a : Answer) (number place : ℕ) (entries : List ℕ) → 0 < k → IfRefused (λ n. n < k) a → number ∷ place ∷ entries ≡ told (length entries) a → number < k
told_below k (accepted ns) number place entries h b e = subst (λ n. n < k) (sym (ap (λ l. get_or l 0 0) e)) h
told_below k (refused n p) number place entries h b e = subst (λ n. n < k) (sym (ap (λ l. get_or l 0 0) e)) b

-- of a call
pub number_below :
    {R : Type 0} {o : Outcome R} {number place : ℕ} {entries : List ℕ} {rooms : R} (k : ℕ) → 0 < k → IfRefused (λ n. n < k) o.answer → Given number place entries rooms o
    → number < k
number_below {R} {o} {number} {place} {entries} k h b g = told_below k o.answer number place entries h b g.answer
