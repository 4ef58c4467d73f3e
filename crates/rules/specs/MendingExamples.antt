-- Request 8: mending lists written and applied, bad lines, and both calls refused; each computed. Rooms hold something, and where a call is accepted they are
-- one entry too long. The sizes are written here as the request has them, not taken from the rules.
use Rattle.std.specs.Prelude.{◌≡◌, refl, true, false, List, [], ◌∷◌, ◌++◌, ℕ, ◌+◌, ◌*◌, ◌/◌, ◌%◌, eqb, leb, length, replicate, negsuc, Float}
use Prim.Native.String.{String}
use Rattle.std.specs.Float.{fin}
use Rattle.rules.specs.Mesh.{points_of, faces_of}
use Rattle.rules.specs.Refusal.{no, decided, unless, no1, no2}
use Rattle.rules.specs.Line.{bytes}
use Rattle.rules.specs.Bench.{Row, shown}
use Rattle.rules.specs.Applying.{no15}
use Rattle.rules.specs.Calls.{ListRooms, list_check, write_list, ApplyRooms, apply_check, apply_list}
use Rattle.rules.specs.CallRows.{row, faults, said, floats, bits_of, dirty, dirt, left, legs, every_word}
use Rattle.rules.specs.Open.{every_rule}

-- ---- lists written

-- the list of a repair at the threshold 2^-10, written into a text room and a work room of the given lengths: the answer and both rooms
writing : List ℕ → List ℕ → ℕ → ℕ → ℕ → List (List ℕ)
writing points faces options a b =
    let o = write_list (floats points) faces (fin false 1 (negsuc 9)) options (record { text = replicate a 7; work = replicate b 7 }) in
    said o.answer ∷ o.rooms.text ∷ o.rooms.work ∷ []

-- P points and F faces of which this text is written, with one entry more in each room: the text and then 7, and the work room cleared
listing : ℕ → ℕ → List ℕ → List ℕ → ℕ → String → Row
listing P F points faces options text =
    let t = bytes text in
    row (writing points faces options (length t + 1) (16 * P + 64 * F + 65)) ((length t ∷ []) ∷ (t ++ (7 ∷ [])) ∷ (replicate (16 * P + 64 * F + 64) 0 ++ (7 ∷ [])) ∷ [])

-- lists of some repairs
pub lists : List Row
lists =
    -- a face that has one point three times: each copy takes what still has it, so the second takes none; of three points two are isolated, as numbered then
    listing 1 1 (0 ∷ 0 ∷ 0 ∷ []) (0 ∷ 0 ∷ 0 ∷ []) 40 "s\t0\t1\t0\ns\t0\t2\nu\t0\nu\t2\n"
    -- a third face on an edge, an exchange, and the point of the face that left
    ∷ listing 5 3 legs (0 ∷ 1 ∷ 2 ∷ 0 ∷ 1 ∷ 3 ∷ 0 ∷ 1 ∷ 4 ∷ []) 63 "d\t2\t3\tedge\no\t1\nu\t4\n"
    -- two faces that meet in a point
    ∷ listing 5 2 legs (0 ∷ 1 ∷ 2 ∷ 0 ∷ 3 ∷ 4 ∷ []) 63 "s\t0\t5\t1\n"
    -- five faces around a band that closes the wrong way: face 4 is exchanged and then leaves
    ∷ listing 5 5 (replicate 15 0) (0 ∷ 1 ∷ 2 ∷ 1 ∷ 2 ∷ 3 ∷ 2 ∷ 3 ∷ 4 ∷ 3 ∷ 4 ∷ 0 ∷ 4 ∷ 0 ∷ 1 ∷ []) 16 "o\t1\no\t3\no\t4\nd\t4\t4\tdirection\n"
    -- both reasons of pass 1; in pass 2 the face is named as in the input, though one before it has left
    ∷ listing 5 4 legs (0 ∷ 0 ∷ 1 ∷ 0 ∷ 1 ∷ 2 ∷ 2 ∷ 1 ∷ 0 ∷ 0 ∷ 2 ∷ 3 ∷ []) 3 "d\t0\t1\trepeated\nd\t3\t1\tthin\nd\t2\t2\tduplicate\n"
    -- every pass off: no line
    ∷ listing 1 1 (0 ∷ 0 ∷ 0 ∷ []) (0 ∷ 0 ∷ 0 ∷ []) 0 ""
    ∷ []

-- each stands there
pub listed_so : faults lists ≡ []
unfolding lists listing writing every_word every_rule
listed_so = refl

-- number n with place p, and the rooms as they were
write_kept : ℕ → ℕ → ℕ → ℕ → List (List ℕ)
write_kept n p a b = (n ∷ p ∷ []) ∷ replicate a 7 ∷ replicate b 7 ∷ []

-- lists that are not written
pub list_refusals : List Row
list_refusals =
    -- one point and no face, `u 0` in four bytes: rooms exactly as long as stated, and each of them one short; of two short rooms the first
    row (writing (0 ∷ 0 ∷ 0 ∷ []) [] 32 4 80) ((4 ∷ []) ∷ bytes "u\t0\n" ∷ replicate 80 0 ∷ [])
    ∷ row (writing (0 ∷ 0 ∷ 0 ∷ []) [] 32 3 80) (write_kept 6 0 3 80)
    ∷ row (writing (0 ∷ 0 ∷ 0 ∷ []) [] 32 4 79) (write_kept 6 1 4 79)
    ∷ row (writing (0 ∷ 0 ∷ 0 ∷ []) [] 32 3 79) (write_kept 6 0 3 79)
    -- an empty text fits in no room
    ∷ row (writing (0 ∷ 0 ∷ 0 ∷ []) [] 0 0 0) (write_kept 6 1 0 0)
    -- two faults in one input: 1 and 1, 1 and 3, 3 and 4, 4 and 5, 5 and 6
    ∷ row (writing (0 ∷ 0 ∷ []) (0 ∷ []) 0 0 0) (write_kept 1 0 0 0)
    ∷ row (writing [] (0 ∷ []) 64 0 0) (write_kept 1 1 0 0)
    ∷ row (writing (0x7ff8_0000_0000_0000 ∷ 0 ∷ 0 ∷ []) [] 64 9 99) (write_kept 3 1 9 99)
    ∷ row (writing (0x7ff8_0000_0000_0000 ∷ 0 ∷ 0 ∷ []) (0 ∷ 0 ∷ 1 ∷ []) 0 0 0) (write_kept 4 0 0 0)
    ∷ row (writing (0 ∷ 0 ∷ 0 ∷ []) (0 ∷ 0 ∷ 1 ∷ []) 0 0 0) (write_kept 5 0 0 0)
    ∷ []

-- each has its number and place
pub list_refused : faults list_refusals ≡ []
unfolding list_refusals writing write_kept every_word every_rule
list_refused = refl

-- ---- lists applied

-- a text applied, in rooms of the given lengths: the answer, the bits of the points, the faces, the work room
applying : List ℕ → List ℕ → String → ℕ → ℕ → ℕ → List (List ℕ)
applying points faces text a b c =
    let o = apply_list (floats points) faces (bytes text) (record { out_points = dirty a; out_faces = replicate b 7; work = replicate c 7 }) in
    said o.answer ∷ bits_of o.rooms.out_points ∷ o.rooms.out_faces ∷ o.rooms.work ∷ []

-- P points and F faces of which these points and faces are left, with one entry more in each room
mending : ℕ → ℕ → List ℕ → List ℕ → String → List ℕ → List ℕ → Row
mending P F points faces text qs gs =
    row (applying points faces text (3 * (P + 3 * F) + 1) (3 * F + 1) (16 * P + 64 * F + 65))
    ((length qs ∷ length gs ∷ []) ∷ left (3 * (P + 3 * F)) dirt qs ∷ left (3 * F) 7 gs ∷ (replicate (16 * P + 64 * F + 64) 0 ++ (7 ∷ [])) ∷ [])

-- what some lists leave
pub meshes : List Row
meshes =
    -- no line: the input
    mending 1 1 (0 ∷ 0 ∷ 0 ∷ []) (0 ∷ 0 ∷ 0 ∷ []) "" (0 ∷ 0 ∷ 0 ∷ []) (0 ∷ 0 ∷ 0 ∷ [])
    -- a copy of the point, with its bits, stands behind the others
    ∷ mending 5 2 legs (0 ∷ 1 ∷ 2 ∷ 0 ∷ 3 ∷ 4 ∷ []) "s\t1\t5\t0\n" (legs ++ (0x3ff0_0000_0000_0000 ∷ 0 ∷ 0 ∷ [])) (0 ∷ 5 ∷ 2 ∷ 0 ∷ 3 ∷ 4 ∷ [])
    -- a face leaves, one is exchanged, and an isolated point leaves: corners above it are renumbered
    ∷ mending 3 2 (0 ∷ 0 ∷ 0 ∷ dirt ∷ 0 ∷ 0 ∷ 0 ∷ dirt ∷ 0 ∷ []) (0 ∷ 1 ∷ 2 ∷ 0 ∷ 2 ∷ 0 ∷ []) "d\t0\t1\tthin\no\t1\nu\t1\n" (0 ∷ 0 ∷ 0 ∷ 0 ∷ dirt ∷ 0 ∷ []) (0 ∷ 0 ∷ 1 ∷ [])
    -- isolated points leave together, by the numbers that they had before any left
    ∷ mending 1 1 (0 ∷ 0 ∷ 0 ∷ []) (0 ∷ 0 ∷ 0 ∷ []) "s\t0\t1\t0\ns\t0\t2\nu\t0\nu\t2\n" (0 ∷ 0 ∷ 0 ∷ []) (0 ∷ 0 ∷ 0 ∷ [])
    -- nothing is left
    ∷ mending 1 1 (0 ∷ 0 ∷ 0 ∷ []) (0 ∷ 0 ∷ 0 ∷ []) "d\t0\t1\trepeated\nu\t0\n" [] []
    ∷ []

-- each stands there
pub mended_so : faults meshes ≡ []
unfolding meshes mending applying every_word every_rule
mended_so = refl

-- number n with place p, and the rooms as they were
apply_kept : ℕ → ℕ → ℕ → ℕ → ℕ → List (List ℕ)
apply_kept n p a b c = (n ∷ p ∷ []) ∷ replicate a dirt ∷ replicate b 7 ∷ replicate c 7 ∷ []

-- lists that are not applied
pub apply_refusals : List Row
apply_refusals =
    -- rooms exactly as long as stated for one point and one face, and each of them one short; of short rooms the first
    row (applying (0 ∷ 0 ∷ 0 ∷ []) (0 ∷ 0 ∷ 0 ∷ []) "o\t0\n" 12 3 144) ((3 ∷ 3 ∷ []) ∷ replicate 12 0 ∷ replicate 3 0 ∷ replicate 144 0 ∷ [])
    ∷ row (applying (0 ∷ 0 ∷ 0 ∷ []) (0 ∷ 0 ∷ 0 ∷ []) "o\t0\n" 11 3 144) (apply_kept 6 0 11 3 144)
    ∷ row (applying (0 ∷ 0 ∷ 0 ∷ []) (0 ∷ 0 ∷ 0 ∷ []) "o\t0\n" 12 2 144) (apply_kept 6 1 12 2 144)
    ∷ row (applying (0 ∷ 0 ∷ 0 ∷ []) (0 ∷ 0 ∷ 0 ∷ []) "o\t0\n" 12 3 143) (apply_kept 6 2 12 3 143)
    ∷ row (applying (0 ∷ 0 ∷ 0 ∷ []) (0 ∷ 0 ∷ 0 ∷ []) "o\t0\n" 12 2 143) (apply_kept 6 1 12 2 143)
    -- two faults in one input: 1 and 1, 1 and 4, 4 and 5, 5 and 15, 15 and 6
    ∷ row (applying (0 ∷ 0 ∷ []) (0 ∷ []) "" 0 0 0) (apply_kept 1 0 0 0 0)
    ∷ row (applying (0x7ff8_0000_0000_0000 ∷ 0 ∷ 0 ∷ []) (0 ∷ []) "" 0 0 0) (apply_kept 1 1 0 0 0)
    ∷ row (applying (0x7ff8_0000_0000_0000 ∷ 0 ∷ 0 ∷ []) (0 ∷ 0 ∷ 1 ∷ []) "" 0 0 0) (apply_kept 4 0 0 0 0)
    ∷ row (applying (0 ∷ 0 ∷ 0 ∷ []) (0 ∷ 0 ∷ 1 ∷ []) "\n" 0 0 0) (apply_kept 5 0 0 0 0)
    ∷ row (applying (0 ∷ 0 ∷ 0 ∷ []) (0 ∷ 0 ∷ 0 ∷ []) "o\t0\n\n" 0 0 0) (apply_kept 15 1 0 0 0)
    -- a bad list, though there is room: no line of it is applied
    ∷ row (applying (0 ∷ 0 ∷ 0 ∷ []) (0 ∷ 0 ∷ 0 ∷ []) "o\t0\no\t0\n" 12 3 144) (apply_kept 15 1 12 3 144)
    ∷ []

-- each has its number and place
pub apply_refused : faults apply_refusals ≡ []
unfolding apply_refusals applying apply_kept every_word every_rule
apply_refused = refl

-- ---- bad lines

-- a text that applies to faces over P points
fine : ℕ → List ℕ → List ℕ → Row
fine P faces text = row (shown (no15 (points_of (floats (replicate (3 * P) 0))) (faces_of faces) text)) []

-- its first bad line
bad : ℕ → List ℕ → List ℕ → ℕ → Row
bad P faces text k = row (shown (no15 (points_of (floats (replicate (3 * P) 0))) (faces_of faces) text)) ((15 ∷ k ∷ []) ∷ [])

-- one face
one : List ℕ
one = 0 ∷ 1 ∷ 2 ∷ []

-- two faces
two : List ℕ
two = 0 ∷ 1 ∷ 2 ∷ 0 ∷ 2 ∷ 1 ∷ []

-- texts whose form is wrong
pub forms : List Row
forms =
    -- no text has no line; a newline alone ends an empty line
    fine 3 one [] ∷ bad 3 one (bytes "\n") 0
    -- no newline at the end; a carriage return before it
    ∷ bad 3 one (bytes "o\t0") 0 ∷ bad 3 one (bytes "o\t0" ++ (13 ∷ 10 ∷ [])) 0
    -- another letter; more than a letter; too few and too many fields of each kind
    ∷ bad 3 one (bytes "x\t0\n") 0 ∷ bad 3 one (bytes "oo\t0\n") 0
    ∷ bad 3 one (bytes "o\n") 0 ∷ bad 3 one (bytes "o\t0\t0\n") 0 ∷ bad 3 one (bytes "u\n") 0 ∷ bad 3 one (bytes "s\t0\n") 0
    ∷ bad 3 one (bytes "d\t0\t1\n") 0 ∷ bad 3 one (bytes "d\t0\t1\tthin\t0\n") 0
    -- a number with a leading zero, a sign or no digit, or above 32 bits
    ∷ bad 3 one (bytes "o\t00\n") 0 ∷ bad 3 one (bytes "o\t+0\n") 0 ∷ bad 3 one (bytes "o\t\n") 0 ∷ bad 3 one (bytes "o\t4294967296\n") 0
    -- a pass and a reason that do not belong together; a reason need not be true
    ∷ bad 3 one (bytes "d\t0\t1\tedge\n") 0 ∷ bad 3 one (bytes "d\t0\t2\tthin\n") 0 ∷ bad 3 one (bytes "d\t0\t1\tthick\n") 0 ∷ fine 3 one (bytes "d\t0\t1\trepeated\n")
    -- faces that do not rise
    ∷ bad 3 one (bytes "s\t0\t3\t0\t0\n") 0 ∷ bad 3 two (bytes "s\t0\t3\t1\t0\n") 0 ∷ fine 3 two (bytes "s\t0\t3\t0\t1\n")
    ∷ []

-- each is judged so
pub formed_so : faults forms ≡ []
unfolding forms fine bad one two shown every_word every_rule
formed_so = refl

-- texts of lines that come in the wrong order
pub orders : List Row
orders =
    -- exchanges come before the drops of pass 4 and after those of pass 3
    fine 3 one (bytes "o\t0\nd\t0\t4\tdirection\n") ∷ fine 3 two (bytes "o\t1\nd\t0\t4\tdirection\n") ∷ bad 3 two (bytes "d\t0\t4\tdirection\no\t1\n") 1
    ∷ fine 3 two (bytes "d\t1\t3\tedge\no\t0\n") ∷ bad 3 two (bytes "o\t0\nd\t1\t3\tedge\n") 1
    -- passes rise; within a pass first numbers do, whatever the reason
    ∷ fine 3 two (bytes "d\t1\t1\tthin\nd\t0\t2\tduplicate\n") ∷ bad 3 two (bytes "d\t1\t2\tduplicate\nd\t0\t1\tthin\n") 1
    ∷ bad 3 two (bytes "d\t1\t1\tthin\nd\t0\t1\trepeated\n") 1 ∷ fine 3 two (bytes "d\t0\t1\tthin\nd\t1\t1\trepeated\n")
    ∷ bad 3 two (bytes "o\t1\no\t0\n") 1 ∷ bad 3 two (bytes "o\t1\no\t1\n") 1
    -- splits come after drops and before isolated points, by old point and then by new
    ∷ fine 3 two (bytes "s\t0\t3\t1\ns\t1\t4\n") ∷ bad 3 two (bytes "s\t1\t3\ns\t0\t4\n") 1
    ∷ bad 3 two (bytes "s\t0\t3\nd\t1\t4\tdirection\n") 1 ∷ bad 3 one (bytes "s\t0\t3\nu\t3\ns\t0\t4\n") 2
    -- isolated points rise
    ∷ fine 5 one (bytes "u\t3\nu\t4\n") ∷ bad 5 one (bytes "u\t4\nu\t3\n") 1 ∷ bad 5 one (bytes "u\t3\nu\t3\n") 1
    ∷ []

-- each is judged so
pub ordered_so : faults orders ≡ []
unfolding orders fine bad one two shown every_word every_rule
ordered_so = refl

-- texts of lines that name what is not there
pub absences : List Row
absences =
    -- a face that is absent, or already dropped
    bad 3 one (bytes "o\t1\n") 0 ∷ bad 3 one (bytes "d\t1\t1\tthin\n") 0 ∷ bad 3 one (bytes "d\t0\t1\tthin\no\t0\n") 1
    ∷ bad 3 one (bytes "d\t0\t1\tthin\nd\t0\t2\tduplicate\n") 1 ∷ bad 3 one (bytes "d\t0\t1\tthin\ns\t0\t3\t0\n") 1
    -- an old point that is no input point, even if it was made since; a new one that is not the next
    ∷ bad 3 one (bytes "s\t3\t3\n") 0 ∷ bad 3 one (bytes "s\t0\t3\t0\ns\t3\t4\t0\n") 1 ∷ bad 3 one (bytes "s\t0\t2\n") 0 ∷ bad 3 one (bytes "s\t0\t4\n") 0 ∷ bad 3 one (bytes "s\t0\t3\ns\t0\t3\n") 1
    -- a face that has not the old point, or no more
    ∷ bad 4 one (bytes "s\t3\t4\t0\n") 0 ∷ bad 3 one (bytes "s\t0\t3\t0\ns\t0\t4\t0\n") 1 ∷ bad 3 one (bytes "s\t0\t3\t1\n") 0
    -- 3F splits and one more; without faces none
    ∷ fine 3 one (bytes "s\t0\t3\ns\t0\t4\ns\t0\t5\n") ∷ bad 3 one (bytes "s\t0\t3\ns\t0\t4\ns\t0\t5\ns\t0\t6\n") 3 ∷ bad 3 [] (bytes "s\t0\t3\n") 0
    -- an isolated point that is absent, or used; a copy that no face took is unused
    ∷ bad 3 one (bytes "u\t3\n") 0 ∷ bad 3 one (bytes "u\t0\n") 0 ∷ fine 3 one (bytes "s\t0\t3\nu\t3\n") ∷ bad 3 one (bytes "s\t0\t3\nu\t0\n") 1
    ∷ fine 3 one (bytes "s\t0\t3\t0\nu\t0\n") ∷ bad 3 one (bytes "s\t0\t3\t0\nu\t3\n") 1 ∷ fine 3 one (bytes "d\t0\t1\tthin\nu\t0\nu\t1\nu\t2\n")
    ∷ []

-- each is judged so
pub absent_so : faults absences ≡ []
unfolding absences fine bad one two shown every_word every_rule
absent_so = refl

-- ---- 2, of lists that are too long to write down

-- writing a list of more than 4,194,304 points
pub list_points : (points : List Float) (faces : List ℕ) (s : Float) (options : ℕ) (r : ListRooms) → eqb (length points % 3) 0 ≡ true →
    eqb (length faces % 3) 0 ≡ true → leb (length points / 3) 4194304 ≡ false → list_check points faces s options r ≡ no 2 0
unfolding list_check decided unless no1 no2
list_points points faces s options r p f many = rw (p, f, many)

-- writing a list of more than 1,048,576 faces
pub list_faces : (points : List Float) (faces : List ℕ) (s : Float) (options : ℕ) (r : ListRooms) → eqb (length points % 3) 0 ≡ true →
    eqb (length faces % 3) 0 ≡ true → leb (length points / 3) 4194304 ≡ true → leb (length faces / 3) 1048576 ≡ false →
    list_check points faces s options r ≡ no 2 1
unfolding list_check decided unless no1 no2
list_faces points faces s options r p f few many = rw (p, f, few, many)

-- applying one to more than 4,194,304 points
pub apply_points : (points : List Float) (faces text : List ℕ) (r : ApplyRooms) → eqb (length points % 3) 0 ≡ true →
    eqb (length faces % 3) 0 ≡ true → leb (length points / 3) 4194304 ≡ false → apply_check points faces text r ≡ no 2 0
unfolding apply_check decided unless no1 no2
apply_points points faces text r p f many = rw (p, f, many)

-- applying one to more than 1,048,576 faces
pub apply_faces : (points : List Float) (faces text : List ℕ) (r : ApplyRooms) → eqb (length points % 3) 0 ≡ true →
    eqb (length faces % 3) 0 ≡ true → leb (length points / 3) 4194304 ≡ true → leb (length faces / 3) 1048576 ≡ false →
    apply_check points faces text r ≡ no 2 1
unfolding apply_check decided unless no1 no2
apply_faces points faces text r p f few many = rw (p, f, few, many)
