-- Patch calls, each by the call: the answer and every room, in rooms that hold something and are one entry too long, and what the filter drops.
use Rattle.std.specs.Prelude.{◌≡◌, refl, List, [], ◌∷◌, replicate}
use Rattle.std.specs.Float.{binary64}
use Rattle.std.specs.Float.Ieee.{of_bits}
use Rattle.rules.specs.Patches.{absent, limit}
use Rattle.rules.specs.CallRows.{row, faults, patching, patched_to, flagging, limits, high, askew, every_word}
use Rattle.rules.specs.Open.{every_rule}
use Rattle.rules.specs.Bench.{Row}

-- records
pub patch_rows : List Row
patch_rows =
    -- areas are summed in face order and taken at corner a, which shows here in the last place; patch 1 is empty
    row (patching askew (0 ∷ 1 ∷ 2 ∷ 0 ∷ 2 ∷ 3 ∷ 1 ∷ 3 ∷ 2 ∷ []) (0 ∷ 0 ∷ 0 ∷ []) 2 (limits absent absent absent absent absent))
    (patched_to 2 (3 ∷ 0 ∷ []) (0x3ff4_fb4b_471c_fb42 ∷ 0xbfe0_0000_0000_0000 ∷ 0xbfe9_9999_9999_999a ∷ 0x3fc9_9999_9999_999a ∷ 0x3fe9_9999_9999_999a ∷ 0x3fe6_6666_6666_6666 ∷ 0x3fec_cccc_cccc_cccd ∷ 0 ∷ 0x7ff0_0000_0000_0000 ∷ 0x7ff0_0000_0000_0000 ∷ 0x7ff0_0000_0000_0000 ∷ 0xfff0_0000_0000_0000 ∷ 0xfff0_0000_0000_0000 ∷ 0xfff0_0000_0000_0000 ∷ []) (1 ∷ 1 ∷ []))
    -- a face from each of its corners: three areas; face counts, and a face in no patch
    ∷ row (patching askew (0 ∷ 1 ∷ 2 ∷ 1 ∷ 2 ∷ 0 ∷ 2 ∷ 0 ∷ 1 ∷ 0 ∷ 1 ∷ 3 ∷ []) (2 ∷ 0 ∷ 1 ∷ 4294967295 ∷ []) 3 (limits absent absent absent absent absent))
    (patched_to 3 (1 ∷ 1 ∷ 1 ∷ []) (0x3fce_92ae_eafe_4a39 ∷ 0xbfe0_0000_0000_0000 ∷ 0x3fd9_9999_9999_999a ∷ 0x3fc9_9999_9999_999a ∷ 0x3fe9_9999_9999_999a ∷ 0x3fe6_6666_6666_6666 ∷ 0x3fec_cccc_cccc_cccd ∷ 0x3fce_92ae_eafe_4a38 ∷ 0xbfe0_0000_0000_0000 ∷ 0x3fd9_9999_9999_999a ∷ 0x3fc9_9999_9999_999a ∷ 0x3fe9_9999_9999_999a ∷ 0x3fe6_6666_6666_6666 ∷ 0x3fec_cccc_cccc_cccd ∷ 0x3fce_92ae_eafe_4a37 ∷ 0xbfe0_0000_0000_0000 ∷ 0x3fd9_9999_9999_999a ∷ 0x3fc9_9999_9999_999a ∷ 0x3fe9_9999_9999_999a ∷ 0x3fe6_6666_6666_6666 ∷ 0x3fec_cccc_cccc_cccd ∷ []) (1 ∷ 1 ∷ 1 ∷ []))
    -- no patches: every room is as it was
    ∷ row (patching (replicate 3 0) (0 ∷ 0 ∷ 0 ∷ []) (4294967295 ∷ []) 0 (limits absent absent absent absent absent))
    (patched_to 0 [] [] [])
    ∷ []

-- every row holds
pub patches_so : faults patch_rows ≡ []
unfolding patch_rows every_word every_rule
patches_so = refl

-- flags
pub filter_rows : List Row
filter_rows =
    -- a diagonal meets its limit, and not the next f64; each other order of its sum is below it
    row (flagging askew (0 ∷ 1 ∷ 2 ∷ 0 ∷ 2 ∷ 3 ∷ 1 ∷ 3 ∷ 2 ∷ []) (0 ∷ 0 ∷ 0 ∷ []) 1 (limits absent absent (limit (of_bits binary64 0x4000_d68a_95d6_4df4)) absent absent)) ((1 ∷ []) ∷ [])
    ∷ row (flagging askew (0 ∷ 1 ∷ 2 ∷ 0 ∷ 2 ∷ 3 ∷ 1 ∷ 3 ∷ 2 ∷ []) (0 ∷ 0 ∷ 0 ∷ []) 1 (limits absent absent (limit (of_bits binary64 0x4000_d68a_95d6_4df5)) absent absent)) ((0 ∷ []) ∷ [])
    -- 3 is above the diagonal and below its square; 2 is below it and above the largest side
    ∷ row (flagging askew (0 ∷ 1 ∷ 2 ∷ 0 ∷ 2 ∷ 3 ∷ 1 ∷ 3 ∷ 2 ∷ []) (0 ∷ 0 ∷ 0 ∷ []) 1 (limits absent absent (limit (of_bits binary64 0x4008_0000_0000_0000)) absent absent)) ((0 ∷ []) ∷ [])
    ∷ row (flagging askew (0 ∷ 1 ∷ 2 ∷ 0 ∷ 2 ∷ 3 ∷ 1 ∷ 3 ∷ 2 ∷ []) (0 ∷ 0 ∷ 0 ∷ []) 1 (limits absent absent (limit (of_bits binary64 0x4000_0000_0000_0000)) absent absent)) ((1 ∷ []) ∷ [])
    -- the diagonal of an empty patch is 0; NaN drops nothing
    ∷ row (flagging askew [] [] 1 (limits absent absent (limit (of_bits binary64 0x0000_0000_0000_0001)) absent absent)) ((0 ∷ []) ∷ [])
    ∷ row (flagging askew (0 ∷ 1 ∷ 2 ∷ 0 ∷ 2 ∷ 3 ∷ 1 ∷ 3 ∷ 2 ∷ []) (0 ∷ 0 ∷ 0 ∷ []) 1 (limits absent absent (limit (of_bits binary64 0x7ff8_0000_0000_0000)) absent absent)) ((1 ∷ []) ∷ [])
    -- min_faces: the number met, and one more
    ∷ row (flagging askew (0 ∷ 1 ∷ 2 ∷ 0 ∷ 2 ∷ 3 ∷ 1 ∷ 3 ∷ 2 ∷ []) (0 ∷ 1 ∷ 0 ∷ []) 2 (limits (limit 1) absent absent absent absent)) ((1 ∷ 1 ∷ []) ∷ [])
    ∷ row (flagging askew (0 ∷ 1 ∷ 2 ∷ 0 ∷ 2 ∷ 3 ∷ 1 ∷ 3 ∷ 2 ∷ []) (0 ∷ 1 ∷ 0 ∷ []) 2 (limits (limit 2) absent absent absent absent)) ((1 ∷ 0 ∷ []) ∷ [])
    -- min_area: the number met, and the next f64
    ∷ row (flagging askew (0 ∷ 1 ∷ 2 ∷ 0 ∷ 2 ∷ 3 ∷ 1 ∷ 3 ∷ 2 ∷ []) (0 ∷ 1 ∷ 2 ∷ []) 3 (limits absent (limit (of_bits binary64 0x3fce_92ae_eafe_4a37)) absent absent absent)) ((1 ∷ 1 ∷ 1 ∷ []) ∷ [])
    ∷ row (flagging askew (0 ∷ 1 ∷ 2 ∷ 0 ∷ 2 ∷ 3 ∷ 1 ∷ 3 ∷ 2 ∷ []) (0 ∷ 1 ∷ 2 ∷ []) 3 (limits absent (limit (of_bits binary64 0x3fce_92ae_eafe_4a38)) absent absent absent)) ((0 ∷ 1 ∷ 1 ∷ []) ∷ [])
    -- a fraction is of the largest area of all patches, 3/2, and the product is rounded: the f64 next above two thirds still gives 1, which patch 2 meets; the one after it does not
    ∷ row (flagging high (0 ∷ 1 ∷ 2 ∷ 0 ∷ 1 ∷ 3 ∷ 0 ∷ 1 ∷ 4 ∷ 1 ∷ 0 ∷ 3 ∷ []) (0 ∷ 1 ∷ 2 ∷ 4294967295 ∷ []) 3 (limits absent absent absent (limit (of_bits binary64 0x3fe5_5555_5555_5556)) absent)) ((0 ∷ 1 ∷ 1 ∷ []) ∷ [])
    ∷ row (flagging high (0 ∷ 1 ∷ 2 ∷ 0 ∷ 1 ∷ 3 ∷ 0 ∷ 1 ∷ 4 ∷ 1 ∷ 0 ∷ 3 ∷ []) (0 ∷ 1 ∷ 2 ∷ 4294967295 ∷ []) 3 (limits absent absent absent (limit (of_bits binary64 0x3fe5_5555_5555_5557)) absent)) ((0 ∷ 1 ∷ 0 ∷ []) ∷ [])
    -- also where the largest patch falls itself: patch 1 has too few faces
    ∷ row (flagging high (0 ∷ 1 ∷ 2 ∷ 0 ∷ 1 ∷ 3 ∷ 0 ∷ 1 ∷ 4 ∷ 0 ∷ 0 ∷ 0 ∷ 0 ∷ 0 ∷ 0 ∷ []) (0 ∷ 1 ∷ 2 ∷ 0 ∷ 2 ∷ []) 3 (limits (limit 2) absent absent (limit (of_bits binary64 0x3fe0_0000_0000_0000)) absent)) ((0 ∷ 0 ∷ 1 ∷ []) ∷ [])
    -- keep_largest_n: none, one, two and three of the areas 1/2, 3/2, 1/2, 3/2; of equal areas the lower index ranks first
    ∷ row (flagging high (0 ∷ 1 ∷ 2 ∷ 0 ∷ 1 ∷ 3 ∷ 0 ∷ 1 ∷ 2 ∷ 0 ∷ 1 ∷ 3 ∷ []) (0 ∷ 1 ∷ 2 ∷ 3 ∷ []) 4 (limits absent absent absent absent (limit 0))) ((0 ∷ 0 ∷ 0 ∷ 0 ∷ []) ∷ [])
    ∷ row (flagging high (0 ∷ 1 ∷ 2 ∷ 0 ∷ 1 ∷ 3 ∷ 0 ∷ 1 ∷ 2 ∷ 0 ∷ 1 ∷ 3 ∷ []) (0 ∷ 1 ∷ 2 ∷ 3 ∷ []) 4 (limits absent absent absent absent (limit 1))) ((0 ∷ 1 ∷ 0 ∷ 0 ∷ []) ∷ [])
    ∷ row (flagging high (0 ∷ 1 ∷ 2 ∷ 0 ∷ 1 ∷ 3 ∷ 0 ∷ 1 ∷ 2 ∷ 0 ∷ 1 ∷ 3 ∷ []) (0 ∷ 1 ∷ 2 ∷ 3 ∷ []) 4 (limits absent absent absent absent (limit 2))) ((0 ∷ 1 ∷ 0 ∷ 1 ∷ []) ∷ [])
    ∷ row (flagging high (0 ∷ 1 ∷ 2 ∷ 0 ∷ 1 ∷ 3 ∷ 0 ∷ 1 ∷ 2 ∷ 0 ∷ 1 ∷ 3 ∷ []) (0 ∷ 1 ∷ 2 ∷ 3 ∷ []) 4 (limits absent absent absent absent (limit 3))) ((1 ∷ 1 ∷ 0 ∷ 1 ∷ []) ∷ [])
    ∷ row (flagging high (0 ∷ 1 ∷ 2 ∷ 0 ∷ 1 ∷ 3 ∷ 0 ∷ 1 ∷ 2 ∷ 0 ∷ 1 ∷ 3 ∷ []) (0 ∷ 1 ∷ 2 ∷ 3 ∷ []) 4 (limits absent absent absent absent (limit 4))) ((1 ∷ 1 ∷ 1 ∷ 1 ∷ []) ∷ [])
    ∷ []

-- every row holds
pub filters_so : faults filter_rows ≡ []
unfolding filter_rows every_word every_rule
filters_so = refl
