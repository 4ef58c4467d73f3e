-- A component is walked from its first face, and so are all, from the first face to the last. Assumes nothing.
use mathlib.Core.Path.{◌≡◌, refl, sym, ap, ap₂, subst, ◌∙◌}
use mathlib.Core.Bool.{Bool, true, false, not, cond}
use mathlib.Core.List.{List, [], ◌∷◌, map}
use Prim.Native.Nat.{ℕ, suc, ◌+◌, ◌-◌, ◌*◌, ◌/◌, ◌%◌, ◌≤◌, ◌<◌}
use native.Mathlib.Omega.{arith}
use native.Mathlib.Numerals.{add-one}
use borrow.Author.Tests.{ne_eqb}
use lib.Dec.{T}
use lib.ListN.{length, get_or, set, replicate, length-map}
use Rattle.rules.specs.Lists.{below, filter, count, through}
use Rattle.rules.specs.Pass4 as pass4
use Rattle.rules.specs.Pass4.{Walk, Oriented, run, started, oriented}
use Rattle.rule_laws.proofs.Lists.{through_last}
use Rattle.rule_laws.proofs.Rising.{All, all_imp}
use Rattle.rule_laws.proofs.Counting.{filter_le, count_next, count_stay}
use Rattle.orienting.proofs.Room.{Sound, started_sound}
use Rattle.face_words.specs.Words.{stands, view, there, viewed, place}
use Rattle.face_words.proofs.Places.{viewed_length, place_in, there_all, there_length}
use Rattle.searched_walk.specs.declared.Hand.{Hand}
use Rattle.searched_walk.specs.Walking.{seen, chain, walk_of, oriented_of, Ready, Kept, MeetAsks, EmptyGives, StartAsks, ComponentGives, BeginAsks, BeginGives, AllAsks, AllGives}
use Rattle.searched_walk.proofs.Noting.{kept_none, kept_both, place_kept, number_kept, more_most, Noted, noted, noted_fresh, noted_links, noted_here}
use Rattle.searched_walk.proofs.Visiting.{seen_at}

-- ---- one component

module _ {xs w : List ℕ} {h : Hand} {n f : ℕ} (p : StartAsks xs w h n f) where
  -- the words and the hand then
  abbrev w₁ : List ℕ
  w₁ = set w f (get_or w f 0 + 8)

  abbrev h₁ : Hand
  h₁ = record { top = f; size = 1; exchanges = h.exchanges; mark = false; marks = h.marks }

  pub start_low : get_or w f 0 < 2
  start_low = p.ready.fresh f p.here p.new

  note : Noted xs w f true 0 w₁
  note =
      let e : get_or w f 0 + 8 + 0 + 256 * 0 ≡ get_or w f 0 + 8 = omega arith in
      subst (λ x. Noted xs w f true 0 (set w f x)) e (noted xs w f p.here p.up start_low true 0 refl 0)

  meet_ask : MeetAsks xs w h f
  meet_ask = record { ready = p.ready; here = p.here; up = p.up }

  stack_now : map (place w₁) (chain w₁ 1 f) ≡ place w f ∷ []
  unfolding chain
  stack_now = ap (λ x. x ∷ []) (place_kept note.kept f)

  -- it is the rule's start
  started_is : walk_of xs w₁ h₁ ≡ started (place w f) (walk_of xs w h)
  unfolding walk_of started
  started_is = λ i. record { faces = note.faces i; visited = note.visited i; stack = stack_now i; exchanges = h.exchanges; mark = false }

  here_in : place w f < place w (length w)
  here_in = rw (viewed_length xs w) at (place_in xs w f p.here p.up)

  pub start_ready : Ready xs w₁ h₁
  start_ready =
      let l = note.kept.long in
      record {
        worded = record { long = omega (arith, p.ready.worded.long); few = omega (arith, p.ready.worded.few) };
        fresh = noted_fresh note p.ready.fresh;
        top = omega (arith, p.here);
        links = noted_links note (omega arith) p.ready.links;
        stacked = unfold chain in (noted_here note p.here p.up, tt);
        sound =
            subst (λ k. Sound k (walk_of xs w₁ h₁)) (sym (number_kept note.kept))
            (subst (Sound (place w (length w))) (sym started_is) (started_sound p.ready.sound (place w f) here_in (seen_at meet_ask ∙ p.new)));
      }

  -- the component is walked from there
  run_is : run n (walk_of xs w₁ h₁).stack (walk_of xs w₁ h₁) ≡ pass4.component (walk_of xs w h) (place w f)
  unfolding pass4.component started
  run_is = ap (λ u. run n u.stack u) started_is ∙ ap (λ k. run k (place w f ∷ []) (started (place w f) (walk_of xs w h))) many
    where
      many : n ≡ length (walk_of xs w h).faces
      many = p.number ∙ sym (unfold walk_of in viewed_length xs w)

  pub component_gives : {w' : List ℕ} {r : Hand} → EmptyGives xs w₁ h₁ n w' r → ComponentGives xs w h f w' r
  component_gives g = record { kept = kept_both note.kept g.kept; ready = g.ready; marks = g.marks; walk = g.walk ∙ run_is }

-- ---- the walk is begun at a face

module _ {xs w : List ℕ} {h : Hand} {n f : ℕ} (p : BeginAsks xs w h n f) {r : Bool} (e : r ≡ stands w f) where
  -- it is gone
  pub begin_gone : r ≡ false → BeginGives xs w h f w h
  begin_gone k = record { kept = kept_none w; ready = p.ready; few = omega arith; walk = ap (λ q. cond q (pass4.begin (oriented_of xs w h) (place w f)) (oriented_of xs w h)) (sym (sym e ∙ k)) }

  module _ (k : r ≡ true) {s : Bool} (es : s ≡ seen w f) where
    up : T (stands w f)
    up = subst T (sym (sym e ∙ k)) tt

    flag : get_or (walk_of xs w h).visited (place w f) false ≡ s
    flag = seen_at (record { ready = p.ready; here = p.here; up = up }) ∙ sym es

    -- it is visited already
    pub begin_seen : s ≡ true → BeginGives xs w h f w h
    begin_seen q = record { kept = kept_none w; ready = p.ready; few = omega arith; walk = is }
      where
        is : oriented_of xs w h ≡ cond (stands w f) (pass4.begin (oriented_of xs w h) (place w f)) (oriented_of xs w h)
        is =
            unfold pass4.begin in
            (ap₂ (λ x y. cond x (cond y (oriented_of xs w h) (pass4.closed h.marks (pass4.component (walk_of xs w h) (place w f)))) (oriented_of xs w h)) (sym (sym e ∙ k)) (sym (flag ∙ q)))

    module _ (q : s ≡ false) where
      pub start_ask : StartAsks xs w h n f
      start_ask = record { ready = p.ready; here = p.here; up = up; new = sym es ∙ q; number = p.number }

      module _ {w' : List ℕ} {v : Hand} (g : ComponentGives xs w h f w' v) {m : ℕ} (em : m ≡ cond v.mark 0 1) where
        -- what the code reckons
        pub record MarkBounds : Type 0 where
          pub one : m ≤ 1
          pub few : v.marks ≤ 1048576

        pub mark_bounds : MarkBounds
        mark_bounds = record { one = more_most v.mark em; few = omega (arith, g.marks, p.few, p.here, p.ready.worded.few) }

        marks_are : v.marks + 1 - m ≡ cond v.mark (suc h.marks) h.marks
        marks_are = go v.mark em
          where
            go : (b : Bool) → m ≡ cond b 0 1 → v.marks + 1 - m ≡ cond b (suc h.marks) h.marks
            go true z = omega (arith, g.marks)
            go false z = omega (arith, g.marks)

        abbrev v' : Hand
        v' = record { top = v.top; size = v.size; exchanges = v.exchanges; mark = v.mark; marks = v.marks + 1 - m }

        closed_is : oriented_of xs w' v' ≡ pass4.closed h.marks (walk_of xs w' v)
        unfolding walk_of pass4.closed
        closed_is = λ i. record { walk = walk_of xs w' v; marks = marks_are i }

        -- its component is walked
        pub begin_walked : BeginGives xs w h f w' v'
        begin_walked =
            record {
              kept = g.kept;
              ready =
                  record {
                    worded = g.ready.worded;
                    fresh = g.ready.fresh;
                    top = g.ready.top;
                    links = g.ready.links;
                    stacked = g.ready.stacked;
                    sound = subst (Sound (place w' (length w'))) same g.ready.sound;
                  };
              few = omega (arith, g.marks);
              walk = closed_is ∙ ap (pass4.closed h.marks) g.walk ∙ is;
            }
          where
            same : walk_of xs w' v ≡ walk_of xs w' v'
            same = unfold walk_of in refl

            is : pass4.closed h.marks (pass4.component (walk_of xs w h) (place w f)) ≡ cond (stands w f) (pass4.begin (oriented_of xs w h) (place w f)) (oriented_of xs w h)
            is =
                unfold pass4.begin in
                (ap₂ (λ x y. cond x (cond y (oriented_of xs w h) (pass4.closed h.marks (pass4.component (walk_of xs w h) (place w f)))) (oriented_of xs w h)) (sym (sym e ∙ k)) (sym (flag ∙ q)))

-- ---- all components

-- the hand at first
abbrev pub empty_hand : Hand
empty_hand = record { top = 0; size = 0; exchanges = 0; mark = false; marks = 0 }

-- where the rule begins
abbrev pub origin : List ℕ → List ℕ → Oriented
origin xs w =
    record {
      walk = record { faces = viewed xs w; visited = replicate (length (viewed xs w)) false; stack = []; exchanges = 0; mark = false };
      marks = 0;
    }

-- the walk was begun at the faces below f
pub record Begun (xs w₀ w : List ℕ) (h : Hand) (f : ℕ) : Type 0 where
  pub most : f ≤ length w₀
  pub kept : Kept w₀ w
  pub ready : Ready xs w h
  pub few : h.marks ≤ f
  pub walk : oriented_of xs w h ≡ through pass4.begin (origin xs w₀) (below (place w₀ f))

-- all the same
all_false : {A : Type 0} (p : A → Bool) (xs : List A) → All (λ x. p x ≡ false) xs → map p xs ≡ replicate (length xs) false
all_false p [] a = refl
all_false p (x ∷ xs) a = ap₂ (λ y l. y ∷ l) a.0 (all_false p xs a.1)

module _ {xs w₀ : List ℕ} {n : ℕ} (p : AllAsks xs w₀ n) where
  unseen_first : (f : ℕ) → f < length w₀ → seen w₀ f ≡ false
  unfolding seen
  unseen_first f l = let b = p.asks.low f l in ne_eqb (get_or w₀ f 0 / 8 % 2) 1 (λ z. absurd (omega arith))

  flags_first : map (seen w₀) (there w₀ (length w₀)) ≡ replicate (length (viewed xs w₀)) false
  flags_first =
      all_false (seen w₀) (there w₀ (length w₀))
      (all_imp (λ f. (f < length w₀) × T (stands w₀ f)) (λ f. seen w₀ f ≡ false) (λ f l. unseen_first f l.0) (there w₀ (length w₀)) (there_all w₀ (length w₀)))
      ∙ ap (λ k. replicate k false) (sym (length-map (there w₀ (length w₀)) (view xs w₀)))

  first_is : oriented_of xs w₀ empty_hand ≡ origin xs w₀
  unfolding walk_of chain
  first_is = λ i. record { walk = record { faces = viewed xs w₀; visited = flags_first i; stack = []; exchanges = 0; mark = false }; marks = 0 }

  first_sound : Sound (place w₀ (length w₀)) (walk_of xs w₀ empty_hand)
  unfolding walk_of chain count
  first_sound =
      let l = length-map (there w₀ (length w₀)) (seen w₀) in
      let t = there_length w₀ (length w₀) in
      record {
        flags = l ∙ t;
        whole = viewed_length xs w₀;
        stacked = tt;
        room = omega (arith, filter_le not (map (seen w₀) (there w₀ (length w₀))));
        turns = omega (arith, filter_le not (map (seen w₀) (there w₀ (length w₀))));
      }

  pub all_begin : Begun xs w₀ w₀ empty_hand 0
  all_begin =
      record {
        most = omega arith;
        kept = kept_none w₀;
        ready =
            record {
              worded = p.asks.worded;
              fresh = λ f l z. p.asks.low f l;
              top = omega arith;
              links = λ f l. let b = p.asks.low f l in omega arith;
              stacked = unfold chain in tt;
              sound = first_sound;
            };
        few = omega arith;
        walk = first_is ∙ none;
      }
    where
      none : origin xs w₀ ≡ through pass4.begin (origin xs w₀) (below (place w₀ 0))
      none = unfold through below count filter in refl

  module _ {w : List ℕ} {h : Hand} {f : ℕ} (u : Begun xs w₀ w h f) where
    pub all_ask : f < length w → BeginAsks xs w h n f
    all_ask l = record { ready = u.ready; here = l; number = p.number ∙ sym (number_kept u.kept); few = u.few }

    pub all_again : f < length w → {w' : List ℕ} {h' : Hand} → BeginGives xs w h f w' h' → Begun xs w₀ w' h' (f + 1)
    all_again l {w'} {h'} g =
        record {
          most = let k = u.kept.long in omega arith;
          kept = kept_both u.kept g.kept;
          ready = g.ready;
          few = omega (arith, g.few, u.few);
          walk = g.walk ∙ ap₂ (λ (q : ℕ → Bool) (o : Oriented). cond (q f) (pass4.begin o (place w f)) o) u.kept.stays u.walk ∙ ap (λ x. cond (stands w₀ f) (pass4.begin before x) before) (place_kept u.kept f) ∙ go (stands w₀ f) refl;
        }
      where
        before : Oriented
        before = through pass4.begin (origin xs w₀) (below (place w₀ f))

        go : (b : Bool) → stands w₀ f ≡ b → cond b (pass4.begin before (place w₀ f)) before ≡ through pass4.begin (origin xs w₀) (below (place w₀ (f + 1)))
        go true z =
            sym (through_last pass4.begin (origin xs w₀) (place w₀ f))
            ∙ ap (λ k. through pass4.begin (origin xs w₀) (below k)) (sym (count_next (stands w₀) f (subst T (sym z) tt)) ∙ ap (place w₀) (sym (add-one f)))
        go false z = ap (λ k. through pass4.begin (origin xs w₀) (below k)) (sym (count_stay (stands w₀) f z) ∙ ap (place w₀) (sym (add-one f)))

    pub all_done : length w ≤ f → AllGives xs w₀ w h
    all_done l = record { kept = u.kept; walk = u.walk ∙ whole }
      where
        e : place w₀ f ≡ length (viewed xs w₀)
        e = let k = u.kept.long in let q : f ≡ length w₀ = omega (arith, u.most) in ap (place w₀) q ∙ sym (viewed_length xs w₀)

        whole : through pass4.begin (origin xs w₀) (below (place w₀ f)) ≡ oriented (viewed xs w₀)
        whole = unfold oriented in (ap (λ k. through pass4.begin (origin xs w₀) (below k)) e)
