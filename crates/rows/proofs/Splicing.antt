-- A part of a list is lent, changed at its front and given back: so the list is changed from there on as the part was. Assumes nothing.
use mathlib.Core.Path.{◌≡◌, ap, ◌∙◌}
use mathlib.Core.List.{List, ◌++◌}
use Prim.Native.Nat.{ℕ, ◌+◌, ◌-◌, ◌≤◌, ◌<◌}
use native.Mathlib.Decide.{dec_lt}
use native.Mathlib.Omega.{arith}
use lib.ListN.{length, get_or, take, drop, length-append, length-drop, get_or-append}
use lib.Seq.{get_or-take, get_or-drop, length-take-le, take-append-add, take-append-le, get_or-append-add}
use Rattle.rows.specs.Region.{OnlyOf, Out, Out.below, Out.above}

module _ {A : Type 0} (d : A) (xs : List A) (a L : ℕ) (fit : a + L ≤ length xs) where
  -- what is lent: L entries from a on
  abbrev pub lent : List A
  lent = take L (drop a xs)

  -- it is as long
  pub lent_long : length lent ≡ L
  lent_long = length-take-le L (drop a xs) (simp length-drop (omega arith))

  -- its entries
  pub lent_at : (i : ℕ) → i < L → get_or lent i d ≡ get_or xs (a + i) d
  lent_at i h = get_or-take L (drop a xs) i d h ∙ get_or-drop a xs i d

  -- the front is as long
  front_long : length (take a xs) ≡ a
  front_long = length-take-le a xs (omega arith)

  module _ {ys : List A} {c : ℕ} (o : OnlyOf d 0 c lent ys) (few : c ≤ L) where
    -- the list with the part given back
    abbrev pub back : List A
    back = take a xs ++ (ys ++ drop L (drop a xs))

    -- the part is as long as it was
    ys_long : length ys ≡ L
    ys_long = o.long ∙ lent_long

    -- its front stands behind the list's
    pub front_back : take (a + c) back ≡ take a xs ++ take c ys
    front_back =
        let e : a + c ≡ length (take a xs) + c = omega (arith, front_long) in
        ap (λ k. take k back) e ∙ take-append-add (take a xs) (ys ++ drop L (drop a xs)) c
        ∙ ap (λ l. take a xs ++ l) (take-append-le c ys (drop L (drop a xs)) (omega (arith, ys_long)))

    -- an entry behind the front: of the part that was lent, or beyond it
    behind : (i : ℕ) → c ≤ i → get_or (ys ++ drop L (drop a xs)) i d ≡ get_or xs (a + i) d
    behind i h = go (dec_lt i L)
      where
        go : Dec (i < L) → get_or (ys ++ drop L (drop a xs)) i d ≡ get_or xs (a + i) d
        go (yes l) = get_or-append ys (drop L (drop a xs)) d i (omega (arith, ys_long)) ∙ o.same i (above (omega arith)) ∙ lent_at i l
        go (no l) =
            let e : i ≡ length ys + (i - L) = omega (arith, ys_long) in
            ap (λ k. get_or (ys ++ drop L (drop a xs)) k d) e ∙ get_or-append-add ys (drop L (drop a xs)) (i - L) d
            ∙ get_or-drop L (drop a xs) (i - L) d ∙ get_or-drop a xs (L + (i - L)) d ∙ ap (λ k. get_or xs k d) (omega arith)

    -- past that front all is as it was
    pub only_back : OnlyOf d 0 (a + c) xs back
    only_back = record { long = simp (length-append, length-drop) (omega (arith, front_long, ys_long)); same = same }
      where
        same : (j : ℕ) → Out 0 (a + c) j → get_or back j d ≡ get_or xs j d
        same j (below l) = absurd (omega arith)
        same j (above l) =
            let e : j ≡ length (take a xs) + (j - a) = omega (arith, front_long) in
            ap (λ k. get_or back k d) e ∙ get_or-append-add (take a xs) (ys ++ drop L (drop a xs)) (j - a) d ∙ behind (j - a) (omega arith) ∙ ap (λ k. get_or xs k d) (omega arith)
