-- Only bits 0 and 1 are left, which stand for the same list; and how many faces stand. Assumes nothing.
use mathlib.Core.Path.{◌≡◌, refl, sym, ap, subst, ◌∙◌}
use mathlib.Core.Bool.{Bool, true, false}
use mathlib.Core.List.{List}
use Prim.Native.Nat.{ℕ, suc, ◌+◌, ◌%◌, ◌≤◌, ◌<◌}
use native.Mathlib.Omega.{arith}
use native.Mathlib.Numerals.{add-one}
use native.Mathlib.Decide.{dec_lt}
use lib.Dec.{T}
use lib.ListN.{length, get_or, set, length-set, get_or-eq_default}
use lib.Seq.{get_or-set_same, get_or-set_other}
use Rattle.rules.specs.Lists.{below, filter, count}
use Rattle.rules.specs.Pass4.{oriented}
use Rattle.rule_laws.proofs.Counting.{count_next, count_stay, count_below_le}
use Rattle.face_words.specs.Words.{stands, viewed, place}
use Rattle.searched_marks.proofs.Seeing.{Sight, stands_same, viewed_same}
use Rattle.searched_walk.specs.declared.Hand.{Hand}
use Rattle.searched_walk.specs.Walking.{walk_of, AllGives, CleanGives, TurnedGives}

-- ---- the words below f are cleaned

pub record Cleaned (w₀ w : List ℕ) (f : ℕ) : Type 0 where
  pub most : f ≤ length w₀
  pub long : length w ≡ length w₀
  pub before : (g : ℕ) → g < f → get_or w g 0 ≡ get_or w₀ g 0 % 4
  pub behind : (g : ℕ) → f ≤ g → get_or w g 0 ≡ get_or w₀ g 0

pub clean_begin : {w : List ℕ} → Cleaned w w 0
clean_begin = record { most = omega arith; long = refl; before = λ g h. absurd (omega arith); behind = λ g h. refl }

module _ {w₀ w : List ℕ} {f : ℕ} (v : Cleaned w₀ w f) where
  pub clean_again : f < length w → Cleaned w₀ (set w f (get_or w f 0 % 4)) (f + 1)
  clean_again h =
      record {
        most = let l = v.long in omega arith;
        long = length-set w f (get_or w f 0 % 4) ∙ v.long;
        before = λ g l. go g (dec_lt g f) l;
        behind = λ g l. get_or-set_other w f g (get_or w f 0 % 4) 0 (λ q. absurd (omega arith)) ∙ v.behind g (omega arith);
      }
    where
      go : (g : ℕ) → Dec (g < f) → g < f + 1 → get_or (set w f (get_or w f 0 % 4)) g 0 ≡ get_or w₀ g 0 % 4
      go g (yes l) k = get_or-set_other w f g (get_or w f 0 % 4) 0 (λ q. absurd (omega arith)) ∙ v.before g l
      go g (no l) k = let s : g ≡ f = omega arith in rw s (get_or-set_same w f (get_or w f 0 % 4) 0 h ∙ ap (λ x. x % 4) (v.behind f (omega arith)))

  pub clean_done : length w ≤ f → CleanGives w₀ w
  clean_done h = let l = v.long in record { long = v.long; words = λ g k. v.before g (omega arith) }

-- ---- the faces that stand below f are counted

pub record Standings (w : List ℕ) (n f : ℕ) : Type 0 where
  pub most : f ≤ length w
  pub is : n ≡ place w f

pub count_begin : {w : List ℕ} → Standings w 0 0
count_begin = record { most = omega arith; is = unfold count filter below in refl }

module _ {w : List ℕ} {n f : ℕ} (v : Standings w n f) where
  pub count_few : n ≤ f
  count_few = rw v.is (count_below_le (stands w) f)

  module _ (h : f < length w) {r : Bool} (e : r ≡ stands w f) where
    pub count_one : r ≡ true → Standings w (n + 1) (f + 1)
    count_one k = record { most = omega arith; is = rw (add-one n, add-one f) (ap suc v.is ∙ sym (count_next (stands w) f (subst T (sym (sym e ∙ k)) tt))) }

    pub count_none : r ≡ false → Standings w n (f + 1)
    count_none k = record { most = omega arith; is = rw (add-one f) (v.is ∙ sym (count_stay (stands w) f (sym e ∙ k))) }

  pub count_done : length w ≤ f → n ≡ place w (length w)
  count_done h = let e : f ≡ length w = omega (arith, v.most) in v.is ∙ ap (place w) e

-- ---- the walk

module _ {xs w w₁ : List ℕ} {h : Hand} (g : AllGives xs w w₁ h) {w' : List ℕ} (c : CleanGives w₁ w') where
  sight : Sight w₁ w'
  sight = record { long = c.long; same = λ f. go f (dec_lt f (length w₁)) }
    where
      go : (f : ℕ) → Dec (f < length w₁) → get_or w' f 0 % 4 ≡ get_or w₁ f 0 % 4
      go f (yes l) = ap (λ x. x % 4) (c.words f l) ∙ omega arith
      go f (no l) =
          let k = c.long in
          ap (λ x. x % 4) (get_or-eq_default w' 0 {n = f} (omega arith) ∙ sym (get_or-eq_default w₁ 0 {n = f} (omega arith)))

  pub turned_gives : TurnedGives xs w w' (record { reoriented = h.exchanges; components = h.marks })
  turned_gives =
      record {
        long = c.long ∙ g.kept.long;
        low = λ f l. let k = c.long in rw (c.words f (omega arith)) (omega arith);
        stays = stands_same sight ∙ g.kept.stays;
        list = viewed_same sight xs ∙ faces;
        reoriented = exchanges;
        components = ap (λ o. o.marks) g.walk;
      }
    where
      faces : viewed xs w₁ ≡ (oriented (viewed xs w)).walk.faces
      faces = unfold walk_of in (ap (λ o. o.walk.faces) g.walk)

      exchanges : h.exchanges ≡ (oriented (viewed xs w)).walk.exchanges
      exchanges = unfold walk_of in (ap (λ o. o.walk.exchanges) g.walk)
