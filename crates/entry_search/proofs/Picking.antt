-- The best of the wanted entries, picked face by face: that a face has several entries changes nothing. Assumes nothing.
use mathlib.Core.Path.{◌≡◌, refl, sym, ap, ◌∙◌}
use mathlib.Core.Bool.{Bool, true, false, cond}
use mathlib.Core.List.{List, [], ◌∷◌, map}
use Prim.Native.Nat.{ℕ, suc, ◌+◌, ◌≤◌, ◌<◌}
use native.Mathlib.Omega.{arith}
use borrow.Author.Tests.{lt-ltb}
use lib.Dec.{eqb, ltb}
use lib.ListN.{length, drop}
use lib.Ieee.{Float}
use Rattle.rules.specs.Lists.{filter, through}
use Rattle.rules.specs.Mesh.{Face}
use Rattle.rules.specs.Steps.{Step, step, steps, edge, walks}
use Rattle.rules.specs.Rank.{outranks, better}
use Rattle.rank.specs.Ranks.{better_or, pick, face_or}
use Rattle.rank.proofs.RankLaws.{pick_none, pick_append}
use Rattle.face_words.specs.Words.{stands, view}
use Rattle.std.specs.Prelude.{Option, None, Some, IfSome, option_map}
use Rattle.rank.specs.declared.Choice.{Choice}
use Rattle.entry_search.specs.Searching.{along, CandidateGives}
use Rattle.entry_search.specs.Choosing.{walks_so, is_but, number_or, wanted, admits, wanted_at, value_at, BestAsks, Chosen, ConsiderAsks, ConsiderGives, BestGives}
use Rattle.entry_search.proofs.Entries.{none_along, list_none, list_next, list_skip}

-- ---- one face several times

module _ (F : ℕ) (q : ℕ → Float) where
  -- the same once more
  better_twice : (b f : ℕ) → better_or F q (better_or F q b f) f ≡ better_or F q b f
  unfolding better_or better
  better_twice b f = go (eqb b F) refl (outranks q f b) refl
    where
      self : (x y : Bool) → cond x f (cond y f f) ≡ f
      self true y = refl
      self false true = refl
      self false false = refl

      go : (x : Bool) → eqb b F ≡ x → (y : Bool) → outranks q f b ≡ y
          → cond (eqb (cond x f (cond y f b)) F) f (cond (outranks q f (cond x f (cond y f b))) f (cond x f (cond y f b))) ≡ cond x f (cond y f b)
      go true e y k = self (eqb f F) (outranks q f f)
      go false e true k = self (eqb f F) (outranks q f f)
      go false e false k = rw (e, k)

  -- a face that is there at all
  pub pick_copies : (b f : ℕ) (ss : List Step) → pick F q b (map (λ s. f) ss) ≡ cond (ltb 0 (length ss)) (better_or F q b f) b
  unfolding pick through
  pick_copies b f [] = refl
  pick_copies b f (s ∷ ss) = more (better_or F q b f) (better_twice b f) ss ∙ sym (ap (λ x. cond x (better_or F q b f) b) (lt-ltb 0 (suc (length ss)) (omega arith)))
    where
      more : (c : ℕ) → better_or F q c f ≡ c → (ts : List Step) → through (better_or F q) c (map (λ x. f) ts) ≡ c
      more c e [] = refl
      more c e (t ∷ ts) = ap (λ x. through (better_or F q) x (map (λ y. f) ts)) e ∙ more c e ts

-- where no step is along t none is wanted
wanted_none : (walk : Option Bool) (but : Option ℕ) (d : Bool) (t : Step) (v : Face) (f : ℕ) → filter (along d t) (steps v) ≡ [] → wanted walk but d t v f ≡ []
unfolding wanted
wanted_none walk but d t v f e = rw e (go (walks_so walk (walks v (edge t))) (is_but but f))
  where
    go : (x y : Bool) → cond x (cond y (drop {A = Step} 1 []) []) [] ≡ []
    go true true = refl
    go true false = refl
    go false y = refl

-- ---- the loop

-- the choice is the best of the wanted entries of the faces that were passed
pub record Picked (ps : List Float) (xs w : List ℕ) (d : Bool) (t : Step) (walk : Option Bool) (but : Option ℕ) (b : Option Choice) (f : ℕ) : Type 0 where
  pub most : f ≤ length w
  pub chosen : IfSome b (Chosen (value_at ps xs w) (length w))
  pub picked : face_or (length w) b ≡ pick (length w) (value_at ps xs w) (length w) (wanted_at walk but d t xs w f)

module _ {ps : List Float} {xs w : List ℕ} (p : BestAsks ps xs w) (d : Bool) (a b : ℕ) (walk : Option Bool) (but : Option ℕ) where
  abbrev ss : ℕ → List Step
  ss f = wanted walk but d (step a b) (view xs w f) f

  none_wanted : {from r : ℕ} → CandidateGives xs a b from r → (g : ℕ) → from ≤ g → g < r → ss g ≡ []
  none_wanted c g l h = wanted_none walk but d (step a b) (view xs w g) g (none_along xs w d a b g (c.none g l h))

  pub begin : {r : ℕ} → CandidateGives xs a b 0 r → Picked ps xs w d (step a b) walk but None r
  begin {r} c =
      record {
        most = omega (arith, p.worded.long, c.most);
        chosen = tt;
        picked = pick_none (length w) (value_at ps xs w) (length w) ∙ ap (pick (length w) (value_at ps xs w) (length w)) (sym (list_skip ss w 0 r (omega arith) (none_wanted c) ∙ list_none ss w));
      }

  module _ {best : Option Choice} {f : ℕ} (v : Picked ps xs w d (step a b) walk but best f) (h : f < length w) where
    pub consider_ok : ConsiderAsks ps xs w f best
    consider_ok = record { asks = p; here = h; chosen = v.chosen }

    pub again : {c : Option Choice} → ConsiderGives ps xs w f d (step a b) walk but best c → {r : ℕ} → CandidateGives xs a b (f + 1) r → Picked ps xs w d (step a b) walk but c r
    unfolding admits
    again {c} g {r} n =
        record {
          most = omega (arith, p.worded.long, n.most);
          chosen = g.chosen;
          picked =
              g.picked
              ∙ ap (λ x. cond (stands w f) (cond (admits walk but d (step a b) (view xs w f) f) (better_or (length w) q x f) x) x) v.picked
              ∙ one (stands w f) (pick (length w) q (length w) (wanted_at walk but d (step a b) xs w f))
              ∙ sym (pick_append (length w) q (length w) (wanted_at walk but d (step a b) xs w f) (cond (stands w f) (map (λ s. f) (ss f)) []))
              ∙ ap (pick (length w) q (length w)) (sym (list_next ss w f) ∙ sym (list_skip ss w (suc f) r (omega (arith, n.least)) (λ j l k. none_wanted n j (omega arith) k)));
        }
      where
        q : ℕ → Float
        q = value_at ps xs w

        one : (s : Bool) (x : ℕ) → cond s (cond (admits walk but d (step a b) (view xs w f) f) (better_or (length w) q x f) x) x ≡ pick (length w) q x (cond s (map (λ y. f) (ss f)) [])
        one true x = sym (pick_copies (length w) q x f (ss f))
        one false x = pick_none (length w) q x

  pub done : (best : Option Choice) (f : ℕ) → Picked ps xs w d (step a b) walk but best f → length w ≤ f → BestGives ps xs w d (step a b) walk but (option_map (λ c. c.face) best)
  done best f v h =
      let e : f ≡ length w = omega (arith, v.most) in
      record { here = inside best v.chosen; picked = number best ∙ v.picked ∙ ap (λ k. pick (length w) (value_at ps xs w) (length w) (wanted_at walk but d (step a b) xs w k)) e }
    where
      inside : (o : Option Choice) → IfSome o (Chosen (value_at ps xs w) (length w)) → IfSome (option_map (λ c. c.face) o) (λ f. f < length w)
      inside None i = tt
      inside (Some c) i = i.here

      number : (o : Option Choice) → number_or (length w) (option_map (λ c. c.face) o) ≡ face_or (length w) o
      number None = refl
      number (Some c) = refl
