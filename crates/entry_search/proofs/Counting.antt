-- How many entries a step has, counted face by face. Assumes nothing.
use mathlib.Core.Path.{◌≡◌, sym, ap, ◌∙◌}
use mathlib.Core.Bool.{Bool, true, false, cond}
use mathlib.Core.List.{List}
use Prim.Native.Nat.{ℕ, suc, ◌+◌, ◌*◌, ◌≤◌, ◌<◌}
use native.Mathlib.Omega.{arith}
use lib.ListN.{length}
use Rattle.rules.specs.Lists.{filter}
use Rattle.rules.specs.Mesh.{Face}
use Rattle.rules.specs.Steps.{Step, step, steps}
use Rattle.rule_laws.proofs.Counting.{filter_le}
use Rattle.face_words.specs.Words.{stands, view, takers_at}
use Rattle.face_words.specs.Views.{seen_as, ViewAsks, Worded}
use Rattle.face_words.specs.declared.Corners.{Corners}
use Rattle.entry_search.specs.Searching.{along, uses_at, CandidateAsks, CandidateGives}
use Rattle.entry_search.proofs.Entries.{none_along, list_none, list_length, list_skip}

module _ (p : Step → Bool) where
  -- the steps of a face that stands
  pub uses_seen :
      (xs w : List ℕ) (f : ℕ) {r : Bool} → r ≡ stands w f → r ≡ true → {g : Corners} → seen_as g f ≡ view xs w f → {n : ℕ} → n ≡ length (filter p (steps (seen_as g 0))) → n ≡ uses_at xs w p f
  uses_seen xs w f e k {g} s c = c ∙ ap (λ (v : Face). length (filter p (steps v))) s ∙ rw (← e, k)

  -- of one that is gone
  pub uses_gone : (xs w : List ℕ) (f : ℕ) {r : Bool} → r ≡ stands w f → r ≡ false → 0 ≡ uses_at xs w p f
  uses_gone xs w f e k = rw (← e, k)

  -- three at most
  pub uses_most : (xs w : List ℕ) (f : ℕ) → uses_at xs w p f ≤ 3
  uses_most xs w f = go (stands w f)
    where
      go : (b : Bool) → cond b (length (filter p (steps (view xs w f)))) 0 ≤ 3
      go true = filter_le p (steps (view xs w f))
      go false = omega arith

-- the faces and their words are as many
pub candidate_ok : {xs w : List ℕ} → Worded xs w → (f : ℕ) → f ≤ length w → CandidateAsks xs f
candidate_ok p f h = record { whole = omega (arith, p.long); most = omega (arith, p.long) }

-- the entries of the faces that were passed are counted
pub record Counted (xs w : List ℕ) (d : Bool) (a b n f : ℕ) : Type 0 where
  pub most : f ≤ length w
  pub is : n ≡ length (takers_at (along d (step a b)) xs w f)
  pub few : n ≤ 3 * f

module _ {xs w : List ℕ} {d : Bool} {a b : ℕ} (p : Worded xs w) where
  pub begin : {r : ℕ} → CandidateGives xs a b 0 r → Counted xs w d a b 0 r
  begin {r} g =
      record {
        most = omega (arith, p.long, g.most);
        is = sym (ap length (list_skip (λ f. filter (along d (step a b)) (steps (view xs w f))) w 0 r (omega arith) (λ k l h. none_along xs w d a b k (g.none k l h)) ∙ list_none (λ f. filter (along d (step a b)) (steps (view xs w f))) w));
        few = omega arith;
      }

  module _ {n f : ℕ} (v : Counted xs w d a b n f) (h : f < length w) where
    pub view_ok : ViewAsks xs w f
    view_ok = record { worded = p; here = h }

    pub again : {k : ℕ} → k ≡ uses_at xs w (along d (step a b)) f → {r : ℕ} → CandidateGives xs a b (f + 1) r → Counted xs w d a b (n + k) r
    again {k} e {r} g =
        let u = uses_most (along d (step a b)) xs w f in
        record {
          most = omega (arith, p.long, g.most);
          is =
              ap (λ x. x + k) v.is
              ∙ ap (λ x. length (takers_at (along d (step a b)) xs w f) + x) e
              ∙ sym (list_length (λ j. filter (along d (step a b)) (steps (view xs w j))) w f)
              ∙ sym (ap length (list_skip (λ j. filter (along d (step a b)) (steps (view xs w j))) w (suc f) r (omega (arith, g.least)) (λ j l q. none_along xs w d a b j (g.none j (omega arith) q))));
          few = omega (arith, v.few, g.least);
        }

  pub done : {n f : ℕ} → Counted xs w d a b n f → length w ≤ f → n ≡ length (takers_at (along d (step a b)) xs w (length w))
  done {n} {f} v h = let e : f ≡ length w = omega (arith, v.most) in rw (← e) v.is
