-- One face that is met: visited already, or pushed and exchanged where it disagrees. Assumes nothing.
use mathlib.Core.Path.{◌≡◌, refl, sym, ap, subst, ◌∙◌}
use mathlib.Core.Bool.{Bool, true, false, not, ◌||◌, cond}
use mathlib.Core.List.{List, ◌∷◌, map}
use Prim.Native.Nat.{ℕ, suc, ◌+◌, ◌*◌, ◌≤◌, ◌<◌}
use native.Mathlib.Omega.{arith}
use native.Mathlib.Numerals.{add-one}
use lib.ListN.{length, get_or, set, length-map}
use Rattle.rule_laws.proofs.Counting.{count_below_le}
use Rattle.rules.specs.Mesh.{face}
use Rattle.rules.specs.Steps.{Step, step, opposite, walks}
use Rattle.rules.specs.Pass4 as pass4
use Rattle.rules.specs.Pass4.{Walk, visit}
use Rattle.rule_laws.proofs.Rising.{All}
use Rattle.orienting.specs.Reaching.{reach}
use Rattle.orienting.proofs.Room.{Sound, reach_sound, remark_sound, has_room}
use Rattle.face_words.specs.Words.{stands, view, there, viewed, place}
use Rattle.face_words.specs.Views.{seen_as, ViewAsks}
use Rattle.face_words.specs.declared.Corners.{Corners}
use Rattle.face_words.proofs.Places.{viewed_face, place_in, viewed_length}
use Rattle.searched_walk.specs.declared.Hand.{Hand}
use Rattle.searched_walk.specs.Walking.{seen, chain, walk_of, Visited, Ready, MeetAsks, MeetGives}
use Rattle.searched_walk.proofs.Setting.{map_there_at, chain_length}
use Rattle.searched_walk.proofs.Noting.{kept_none, number_kept, place_kept, Noted, noted, noted_fresh, noted_links, noted_here, noted_still, noted_chain}

-- ---- the rule

-- a meeting keeps the walk sound
meet_sound : {n : ℕ} {v : Walk} (s : Step) (i : ℕ) → i < n → Sound n v → Sound n (pass4.meet s v i)
unfolding pass4.meet reach
meet_sound {n} {v} s i h k = go (get_or v.visited i false) refl
  where
    a : Bool
    a = walks (face v.faces i) (opposite s)

    go : (b : Bool) → get_or v.visited i false ≡ b → Sound n (cond b (pass4.remark a v) (visit a i v))
    go true e = remark_sound k a
    go false e = subst (λ b. Sound n (cond b v (visit a i v))) e (reach_sound k s i h)

-- ---- the face that is met

module _ {xs w : List ℕ} {h : Hand} {g : ℕ} (p : MeetAsks xs w h g) where
  pub view_ok : ViewAsks xs w g
  view_ok = record { worded = p.ready.worded; here = p.here }

  at_place : face (walk_of xs w h).faces (place w g) ≡ view xs w g
  unfolding walk_of
  at_place = viewed_face xs w g p.here p.up

  -- whether it is visited
  pub seen_at : get_or (walk_of xs w h).visited (place w g) false ≡ seen w g
  unfolding walk_of
  seen_at = map_there_at w (seen w) false g (length w) p.here p.up

  here_in : place w g < place w (length w)
  here_in = rw (viewed_length xs w) at (place_in xs w g p.here p.up)

  -- whether it agrees
  agrees_at : {v : Corners} → seen_as v g ≡ view xs w g → (a b : ℕ) → walks (seen_as v 0) (step b a) ≡ walks (face (walk_of xs w h).faces (place w g)) (opposite (step a b))
  unfolding walks opposite
  agrees_at {v} e a b = ap (λ u. walks u (step b a)) (e ∙ sym at_place)

  module _ {v : Corners} (e : seen_as v g ≡ view xs w g) (a b : ℕ) {agrees : Bool} (ea : agrees ≡ walks (seen_as v 0) (step b a)) where
    agrees_is : agrees ≡ walks (face (walk_of xs w h).faces (place w g)) (opposite (step a b))
    agrees_is = ea ∙ agrees_at e a b

    -- ---- it is visited already

    pub met_seen : {r : Bool} → r ≡ seen w g → r ≡ true → {mark : Bool} → mark ≡ (h.mark || not agrees)
        → MeetGives xs w h g (step a b) w (record { top = h.top; size = h.size; exchanges = h.exchanges; mark = mark; marks = h.marks })
    met_seen {r} er k {mark} em =
        record {
          kept = kept_none w;
          ready =
              record {
                worded = p.ready.worded;
                fresh = p.ready.fresh;
                top = p.ready.top;
                links = p.ready.links;
                stacked = p.ready.stacked;
                sound = subst (Sound (place w (length w))) (sym is) (meet_sound (step a b) (place w g) here_in p.ready.sound);
              };
          marks = refl;
          walk = is;
        }
      where
        flag : get_or (walk_of xs w h).visited (place w g) false ≡ true
        flag = seen_at ∙ sym er ∙ k

        is : walk_of xs w (record { top = h.top; size = h.size; exchanges = h.exchanges; mark = mark; marks = h.marks }) ≡ pass4.meet (step a b) (walk_of xs w h) (place w g)
        is = marked ∙ unfold pass4.meet in (ap (λ (q : Bool). cond q (pass4.remark (walks (face (walk_of xs w h).faces (place w g)) (opposite (step a b))) (walk_of xs w h)) (visit (walks (face (walk_of xs w h).faces (place w g)) (opposite (step a b))) (place w g) (walk_of xs w h))) (sym flag))
          where
            marked : walk_of xs w (record { top = h.top; size = h.size; exchanges = h.exchanges; mark = mark; marks = h.marks }) ≡ pass4.remark (walks (face (walk_of xs w h).faces (place w g)) (opposite (step a b))) (walk_of xs w h)
            marked = rw (← agrees_is) (unfold walk_of pass4.remark in (λ i. record { faces = viewed xs w; visited = map (seen w) (there w (length w)); stack = map (place w) (chain w h.size h.top); exchanges = h.exchanges; mark = em i }))

    -- ---- it is visited now

    module _ {r : Bool} (er : r ≡ seen w g) (k : r ≡ false) {turn : ℕ} (et : turn ≡ cond agrees 0 2) where
      new : seen w g ≡ false
      new = sym er ∙ k

      low : get_or w g 0 < 2
      low = p.ready.fresh g p.here new

      low_turns : (q : Bool) → turn ≡ cond q 0 2 → turn ≤ 2
      low_turns true e = omega arith
      low_turns false e = omega arith

      -- what the code reckons
      pub record Bounds : Type 0 where
        pub low_word : get_or w g 0 < 2
        pub low_turn : turn ≤ 2
        pub low_top : h.top ≤ 1048576
        pub few : g < 1048576
        pub size_room : h.size < 1048576
        pub turn_room : h.exchanges < 1048576

      pub bounds : Bounds
      unfolding walk_of
      bounds =
          let f = p.ready.worded.few in
          let q = has_room p.ready.sound (place w g) here_in (seen_at ∙ new) in
          record {
            low_word = low;
            low_turn = low_turns agrees et;
            low_top = omega (arith, p.ready.top);
            few = omega (arith, p.here);
            size_room = let l = count_below_le (stands w) (length w) in omega (arith, q.0, length-map (chain w h.size h.top) (place w), chain_length w h.size h.top);
            turn_room = let l = count_below_le (stands w) (length w) in omega (arith, q.1);
          }

      abbrev w' : List ℕ
      w' = set w g (get_or w g 0 + 8 + turn + 256 * h.top)

      note : Noted xs w g agrees h.top w'
      note = noted xs w g p.here p.up low agrees turn et h.top

      chain_now : chain w' (h.size + 1) g ≡ g ∷ chain w h.size h.top
      unfolding chain
      chain_now = rw (add-one h.size) (ap (λ l. g ∷ l) (ap (chain w' h.size) note.link_now ∙ noted_chain note new h.size h.top p.ready.stacked))

      module _ {more : ℕ} (em : more ≡ cond agrees 0 1) where
        abbrev h' : Hand
        h' = record { top = g; size = h.size + 1; exchanges = h.exchanges + more; mark = h.mark; marks = h.marks }

        exchanges_now : h.exchanges + more ≡ cond agrees h.exchanges (suc h.exchanges)
        exchanges_now = go agrees em
          where
            go : (q : Bool) → more ≡ cond q 0 1 → h.exchanges + more ≡ cond q h.exchanges (suc h.exchanges)
            go true z = omega arith
            go false z = omega arith

        stack_now : map (place w') (chain w' (h.size + 1) g) ≡ place w g ∷ map (place w) (chain w h.size h.top)
        stack_now = ap (map (place w')) chain_now ∙ ap (λ (u : ℕ → ℕ). map u (g ∷ chain w h.size h.top)) (λ i f. place_kept note.kept f i)

        visited_walk : walk_of xs w' h' ≡ visit agrees (place w g) (walk_of xs w h)
        unfolding walk_of visit
        visited_walk = λ i. record { faces = note.faces i; visited = note.visited i; stack = stack_now i; exchanges = exchanges_now i; mark = h.mark }

        met_walk : walk_of xs w' h' ≡ pass4.meet (step a b) (walk_of xs w h) (place w g)
        unfolding pass4.meet
        met_walk =
            visited_walk
            ∙ ap (λ q. visit q (place w g) (walk_of xs w h)) agrees_is
            ∙ ap (λ (q : Bool). cond q (pass4.remark (walks (face (walk_of xs w h).faces (place w g)) (opposite (step a b))) (walk_of xs w h)) (visit (walks (face (walk_of xs w h).faces (place w g)) (opposite (step a b))) (place w g) (walk_of xs w h))) (sym (seen_at ∙ new))

        ready_now : Ready xs w' h'
        ready_now =
            let l = note.kept.long in
            record {
              worded = record { long = omega (arith, p.ready.worded.long); few = omega (arith, p.ready.worded.few) };
              fresh = noted_fresh note p.ready.fresh;
              top = omega (arith, p.here);
              links = noted_links note p.ready.top p.ready.links;
              stacked = subst (All (Visited w')) (sym chain_now) (noted_here note p.here p.up, noted_still note new (chain w h.size h.top) p.ready.stacked);
              sound = subst (λ n. Sound n (walk_of xs w' h')) (sym (number_kept note.kept)) (subst (Sound (place w (length w))) (sym met_walk) (meet_sound (step a b) (place w g) here_in p.ready.sound));
            }

        pub met_new : MeetGives xs w h g (step a b) w' h'
        met_new = record { kept = note.kept; ready = ready_now; marks = refl; walk = met_walk }
