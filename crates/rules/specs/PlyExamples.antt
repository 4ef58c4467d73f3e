-- Request 5: meshes written, files read, and both refused; each computed. Rooms hold something, and where a call is accepted they are one entry too long.
-- The header's lines and the sizes are written here as the request has them, not taken from the rules.
use Rattle.std.specs.Prelude.{◌≡◌, refl, true, false, List, [], ◌∷◌, ◌++◌, ℕ, ◌+◌, ◌*◌, ◌/◌, ◌%◌, eqb, leb, length, replicate, take, Float}
use Prim.Native.String.{String}
use Rattle.rules.specs.Refusal.{ok, no, decided, unless, no1, no2}
use Rattle.rules.specs.Line.{bytes}
use Rattle.rules.specs.Ply.{vertices_in, faces_in_is, no13}
use Rattle.rules.specs.Calls.{ReadPlyRooms, read_ply, read_ply_check, WritePlyRooms, write_ply, write_ply_check, ply_counts, ply_counts_check}
use Rattle.rules.specs.CallRows.{row, faults, said, floats, bits_of, dirty, dirt, every_word}
use Rattle.rules.specs.Open.{every_rule}
use Rattle.rules.specs.Bench.{Row}

-- ---- files, byte by byte

-- the nine header lines, with counts as they are given
lines : String → String → List ℕ
lines p f =
    bytes "ply\nformat binary_little_endian 1.0\nelement vertex " ++ bytes p
    ++ bytes "\nproperty double x\nproperty double y\nproperty double z\nelement face " ++ bytes f
    ++ bytes "\nproperty list uchar int vertex_indices\nend_header\n"

-- a u32 as four bytes, the lowest first
four : ℕ → List ℕ
four n = n % 256 ∷ n / 256 % 256 ∷ n / 65536 % 256 ∷ n / 16777216 ∷ []

-- a vertex, by the bits of x, y and z
vertex_of : ℕ → ℕ → ℕ → List ℕ
vertex_of x y z =
    four (x % 4294967296) ++ four (x / 4294967296) ++ four (y % 4294967296) ++ four (y / 4294967296) ++ four (z % 4294967296) ++ four (z / 4294967296)

-- a face, by its count and its indices
face_of : ℕ → ℕ → ℕ → ℕ → List ℕ
face_of count a b c = (count ∷ []) ++ four a ++ four b ++ four c

-- the bits of 1
one : ℕ
one = 0x3ff0_0000_0000_0000

-- of -0
minus : ℕ
minus = 0x8000_0000_0000_0000

-- of 2^100
far : ℕ
far = 0x4630_0000_0000_0000

-- a NaN
no_number : ℕ
no_number = 0x7ff8_0000_0000_0000

-- a number each of whose bytes is another
mixed : ℕ
mixed = 0x0102_0304_0506_0708

-- the point (0, -0, 1) and the face 0 0 0
one_file : List ℕ
one_file = lines "1" "1" ++ replicate 8 0 ++ (replicate 7 0 ++ (128 ∷ [])) ++ (replicate 6 0 ++ (240 ∷ 63 ∷ [])) ++ (3 ∷ []) ++ replicate 12 0

-- two points and two faces
two_points : List ℕ
two_points = one ∷ minus ∷ mixed ∷ far ∷ 0xc630_0000_0000_0000 ∷ 0 ∷ []

-- their corners
two_faces : List ℕ
two_faces = 0 ∷ 1 ∷ 1 ∷ 1 ∷ 0 ∷ 1 ∷ []

-- their file
two_file : List ℕ
two_file = lines "2" "2" ++ vertex_of one minus mixed ++ vertex_of far 0xc630_0000_0000_0000 0 ++ face_of 3 0 1 1 ++ face_of 3 1 0 1

-- ---- writing

-- points by their bits and faces, written into a file room and a work room of the given lengths: the answer and both rooms
writing : List ℕ → List ℕ → ℕ → ℕ → List (List ℕ)
writing points faces a b =
    let o = write_ply (floats points) faces (record { file = replicate a 7; work = replicate b 7 }) in
    said o.answer ∷ o.rooms.file ∷ o.rooms.work ∷ []

-- a file of so many bytes, with one entry more in each room: the file and then 7, and the work room for P and F cleared
written : ℕ → ℕ → List ℕ → List (List ℕ)
written P F file = (length file ∷ []) ∷ (file ++ (7 ∷ [])) ∷ (replicate (16 * P + 64 * F + 64) 0 ++ (7 ∷ [])) ∷ []

-- meshes that are written
pub ply_writings : List Row
ply_writings =
    -- no point and no face: the header alone, 172 bytes
    row (writing [] [] 173 65) (written 0 0 (lines "0" "0"))
    -- all 209 bytes; what stands behind the file is unchanged
    ∷ row (writing (0 ∷ minus ∷ one ∷ []) (0 ∷ 0 ∷ 0 ∷ []) 210 145) (written 1 1 one_file)
    -- x, y, z and corners 0, 1, 2 in their order, the lowest byte first
    ∷ row (writing two_points two_faces 247 225) (written 2 2 two_file)
    -- a count of two digits; points without faces
    ∷ row (writing (replicate 30 0) [] 414 225) (written 10 0 (lines "10" "0" ++ replicate 240 0))
    -- a corner of two bytes
    ∷ row (writing (replicate 771 0) (0 ∷ 255 ∷ 256 ∷ []) 6356 4241) (written 257 1 (lines "257" "1" ++ replicate 6168 0 ++ (3 ∷ 0 ∷ 0 ∷ 0 ∷ 0 ∷ 255 ∷ 0 ∷ 0 ∷ 0 ∷ 0 ∷ 1 ∷ 0 ∷ 0 ∷ [])))
    ∷ []

-- each stands there
pub ply_written : faults ply_writings ≡ []
unfolding ply_writings writing written lines four vertex_of face_of one minus far mixed one_file two_points two_faces two_file every_word every_rule
ply_written = refl

-- number n with place p, and the rooms as they were
write_kept : ℕ → ℕ → ℕ → ℕ → List (List ℕ)
write_kept n p a b = (n ∷ p ∷ []) ∷ replicate a 7 ∷ replicate b 7 ∷ []

-- meshes that are not written
pub write_refusals : List Row
write_refusals =
    -- rooms exactly as long as stated for one point and one face, and each of them one short; of two short rooms the first
    row (writing (0 ∷ minus ∷ one ∷ []) (0 ∷ 0 ∷ 0 ∷ []) 209 144) ((209 ∷ []) ∷ one_file ∷ replicate 144 0 ∷ [])
    ∷ row (writing (0 ∷ minus ∷ one ∷ []) (0 ∷ 0 ∷ 0 ∷ []) 208 144) (write_kept 6 0 208 144)
    ∷ row (writing (0 ∷ minus ∷ one ∷ []) (0 ∷ 0 ∷ 0 ∷ []) 209 143) (write_kept 6 1 209 143)
    ∷ row (writing (0 ∷ minus ∷ one ∷ []) (0 ∷ 0 ∷ 0 ∷ []) 208 143) (write_kept 6 0 208 143)
    -- two faults in one input: 1 and 1, 1 and 4, 4 and 5, 5 and 6
    ∷ row (writing (0 ∷ 0 ∷ []) (0 ∷ []) 0 0) (write_kept 1 0 0 0)
    ∷ row (writing (no_number ∷ 0 ∷ 0 ∷ []) (0 ∷ []) 0 0) (write_kept 1 1 0 0)
    ∷ row (writing (no_number ∷ 0 ∷ 0 ∷ []) (0 ∷ 0 ∷ 1 ∷ []) 0 0) (write_kept 4 0 0 0)
    ∷ row (writing (0 ∷ 0 ∷ 0 ∷ []) (0 ∷ 0 ∷ 1 ∷ []) 300 300) (write_kept 5 0 300 300)
    ∷ row (writing (0 ∷ 0 ∷ 0 ∷ []) (0 ∷ 0 ∷ 0 ∷ 0 ∷ 1 ∷ 0 ∷ []) 0 0) (write_kept 5 1 0 0)
    -- a NaN, and what is beyond 2^100, is not written, though there is room: the first such point
    ∷ row (writing (0 ∷ 0 ∷ 0 ∷ 0 ∷ 0 ∷ no_number ∷ []) [] 300 300) (write_kept 4 1 300 300)
    ∷ row (writing (0 ∷ (far + 1) ∷ 0 ∷ no_number ∷ 0 ∷ 0 ∷ []) [] 300 300) (write_kept 4 0 300 300)
    -- a face over no point
    ∷ row (writing [] (0 ∷ 0 ∷ 0 ∷ []) 300 300) (write_kept 5 0 300 300)
    ∷ []

-- each has its number and place
pub write_refused : faults write_refusals ≡ []
unfolding write_refusals writing write_kept lines one minus far no_number one_file every_word every_rule
write_refused = refl

-- ---- reading

-- a file read into rooms of the given lengths: the answer, the bits of the points, the faces, the work room
reading : List ℕ → ℕ → ℕ → ℕ → List (List ℕ)
reading file a b c =
    let o = read_ply file (record { points = dirty a; faces = replicate b 7; work = replicate c 7 }) in
    said o.answer ∷ bits_of o.rooms.points ∷ o.rooms.faces ∷ o.rooms.work ∷ []

-- P points and F faces, with one entry more in each room
read_as : ℕ → ℕ → List ℕ → List ℕ → List (List ℕ)
read_as P F points faces =
    (3 * P ∷ 3 * F ∷ []) ∷ (points ++ (dirt ∷ [])) ∷ (faces ++ (7 ∷ [])) ∷ (replicate (16 * P + 64 * F + 64) 0 ++ (7 ∷ [])) ∷ []

-- files that are read
pub ply_readings : List Row
ply_readings =
    -- no point and no face
    row (reading (lines "0" "0") 1 1 65) (read_as 0 0 [] [])
    -- the bits of -0 come back
    ∷ row (reading one_file 4 4 145) (read_as 1 1 (0 ∷ minus ∷ one ∷ []) (0 ∷ 0 ∷ 0 ∷ []))
    -- each number in its place
    ∷ row (reading two_file 7 7 225) (read_as 2 2 two_points two_faces)
    -- thirteen vertices are as long as 24 faces
    ∷ row (reading (lines "13" "0" ++ replicate 312 0) 40 1 273) (read_as 13 0 (replicate 39 0) [])
    -- a body that holds newlines
    ∷ row (reading (lines "1" "0" ++ replicate 24 10) 4 1 81) (read_as 1 0 (replicate 3 0x0a0a_0a0a_0a0a_0a0a) [])
    ∷ []

-- each stands there
pub ply_read : faults ply_readings ≡ []
unfolding ply_readings reading read_as lines four vertex_of face_of one minus far mixed one_file two_points two_faces two_file every_word every_rule
ply_read = refl

-- number n with place p, and the rooms as they were
read_kept : ℕ → ℕ → ℕ → ℕ → ℕ → List (List ℕ)
read_kept n p a b c = (n ∷ p ∷ []) ∷ replicate a dirt ∷ replicate b 7 ∷ replicate c 7 ∷ []

-- only the answer, of rooms that are long enough for one vertex and one face
answer_of : List ℕ → List (List ℕ)
answer_of file = said (read_ply file (record { points = dirty 3; faces = replicate 3 7; work = replicate 144 7 })).answer ∷ []

-- 13 with place 0
formless : List (List ℕ)
formless = (13 ∷ 0 ∷ []) ∷ []

-- files that do not have the form
pub form_refusals : List Row
form_refusals =
    -- no byte, a header that ends early, a byte less and a byte more than the counts tell
    row (answer_of []) formless
    ∷ row (answer_of (take 50 one_file)) formless
    ∷ row (answer_of (take 51 one_file)) formless
    ∷ row (answer_of (take 208 one_file)) formless
    ∷ row (answer_of (one_file ++ (0 ∷ []))) formless
    -- no newline after the last line
    ∷ row (answer_of (take 171 (lines "0" "0"))) formless
    -- counts in another form: a leading zero, a sign, a blank, none, hex digits
    ∷ row (answer_of (lines "01" "0" ++ replicate 24 0)) formless
    ∷ row (answer_of (lines "0" "00")) formless
    ∷ row (answer_of (lines "+1" "0" ++ replicate 24 0)) formless
    ∷ row (answer_of (lines "1 " "0" ++ replicate 24 0)) formless
    ∷ row (answer_of (lines "" "0")) formless
    ∷ row (answer_of (lines "0" "")) formless
    ∷ row (answer_of (lines "a" "0" ++ replicate 1176 0)) formless
    -- counts that 64 bits, or 32, would wrap to 1
    ∷ row (answer_of (lines "18446744073709551617" "0" ++ replicate 24 0)) formless
    ∷ row (answer_of (lines "0" "18446744073709551617" ++ replicate 13 3)) formless
    ∷ row (answer_of (lines "4294967297" "0" ++ replicate 24 0)) formless
    -- more than 20 digits
    ∷ row (answer_of (lines "100000000000000000000" "0")) formless
    -- 13 before 2: too many vertices, and another length
    ∷ row (answer_of (lines "4194305" "0" ++ replicate 24 0)) formless
    -- the counts exchanged: a vertex is longer than a face
    ∷ row (answer_of (lines "1" "0" ++ (3 ∷ []) ++ replicate 12 0)) formless
    -- another line: a carriage return, a comment, other types, another name, other properties, big-endian, another version
    ∷ row (answer_of (bytes "ply\r\nformat binary_little_endian 1.0\nelement vertex 0\nproperty double x\nproperty double y\nproperty double z\nelement face 0\nproperty list uchar int vertex_indices\nend_header\n")) formless
    ∷ row (answer_of (bytes "ply\nformat binary_little_endian 1.0\ncomment made by hand\nelement vertex 0\nproperty double x\nproperty double y\nproperty double z\nelement face 0\nproperty list uchar int vertex_indices\nend_header\n")) formless
    ∷ row (answer_of (bytes "ply\nformat binary_little_endian 1.0\nelement vertex 0\nproperty float64 x\nproperty double y\nproperty double z\nelement face 0\nproperty list uchar int vertex_indices\nend_header\n")) formless
    ∷ row (answer_of (bytes "ply\nformat binary_little_endian 1.0\nelement vertex 0\nproperty double x\nproperty double y\nproperty double z\nelement face 0\nproperty list uint8 int32 vertex_indices\nend_header\n")) formless
    ∷ row (answer_of (bytes "ply\nformat binary_little_endian 1.0\nelement vertex 0\nproperty double x\nproperty double y\nproperty double z\nelement face 0\nproperty list uchar int vertex_index\nend_header\n")) formless
    ∷ row (answer_of (bytes "ply\nformat binary_little_endian 1.0\nelement vertex 0\nproperty double x\nproperty double z\nproperty double y\nelement face 0\nproperty list uchar int vertex_indices\nend_header\n")) formless
    ∷ row (answer_of (bytes "ply\nformat binary_big_endian 1.0\nelement vertex 0\nproperty double x\nproperty double y\nproperty double z\nelement face 0\nproperty list uchar int vertex_indices\nend_header\n")) formless
    ∷ row (answer_of (bytes "ply\nformat binary_little_endian 1.1\nelement vertex 0\nproperty double x\nproperty double y\nproperty double z\nelement face 0\nproperty list uchar int vertex_indices\nend_header\n")) formless
    -- the same lines, as they must be
    ∷ row (answer_of (lines "0" "0")) ((0 ∷ 0 ∷ []) ∷ [])
    ∷ []

-- each is refused 13
pub form_refused : faults form_refusals ≡ []
unfolding form_refusals answer_of formless lines one_file every_word every_rule
form_refused = refl

-- files of the form that are not read
pub read_refusals : List Row
read_refusals =
    -- 14 before 4: a vertex of NaNs, and a face of four corners
    row (reading (lines "1" "1" ++ replicate 24 255 ++ face_of 4 0 0 0) 0 0 0) (read_kept 14 0 0 0 0)
    -- 14 at the second face; at the first of a face of two corners and one of four, which are together as long as two of three
    ∷ row (reading (lines "1" "2" ++ replicate 24 0 ++ face_of 3 0 0 0 ++ face_of 2 0 0 0) 3 6 208) (read_kept 14 1 3 6 208)
    ∷ row (reading (lines "0" "2" ++ (2 ∷ []) ++ four 0 ++ four 0 ++ (4 ∷ []) ++ four 0 ++ four 0 ++ four 0 ++ four 0) 3 6 208) (read_kept 14 0 3 6 208)
    ∷ row (answer_of (lines "0" "24" ++ replicate 312 0)) ((14 ∷ 0 ∷ []) ∷ [])
    -- 4 before 5, at the vertex: a NaN, what is beyond 2^100
    ∷ row (reading (lines "1" "1" ++ vertex_of 0 0 no_number ++ face_of 3 1 0 0) 0 0 0) (read_kept 4 0 0 0 0)
    ∷ row (reading (lines "2" "0" ++ vertex_of far far far ++ vertex_of 0 (far + 1) 0) 6 0 96) (read_kept 4 1 6 0 96)
    -- 5 before 6, at the face, at each corner: P itself, a negative index, -2^31
    ∷ row (reading (lines "1" "2" ++ replicate 24 0 ++ face_of 3 0 0 0 ++ face_of 3 1 0 0) 0 0 0) (read_kept 5 1 0 0 0)
    ∷ row (reading (lines "1" "1" ++ replicate 24 0 ++ face_of 3 0 4294967295 0) 4 4 145) (read_kept 5 0 4 4 145)
    ∷ row (reading (lines "1" "1" ++ replicate 24 0 ++ face_of 3 0 0 2147483648) 4 4 145) (read_kept 5 0 4 4 145)
    ∷ row (reading (lines "0" "1" ++ face_of 3 0 0 0) 4 4 145) (read_kept 5 0 4 4 145)
    -- 6: rooms exactly as long as stated, and each of them one short; of two short rooms the first
    ∷ row (reading one_file 3 3 144) ((3 ∷ 3 ∷ []) ∷ (0 ∷ minus ∷ one ∷ []) ∷ replicate 3 0 ∷ replicate 144 0 ∷ [])
    ∷ row (reading one_file 2 3 144) (read_kept 6 0 2 3 144)
    ∷ row (reading one_file 3 2 144) (read_kept 6 1 3 2 144)
    ∷ row (reading one_file 3 3 143) (read_kept 6 2 3 3 143)
    ∷ row (reading one_file 3 2 143) (read_kept 6 1 3 2 143)
    ∷ []

-- each has its number and place
pub read_refused : faults read_refusals ≡ []
unfolding read_refusals reading read_kept answer_of lines four vertex_of face_of one minus far no_number one_file every_word every_rule
read_refused = refl

-- ---- the counts alone

-- the answer of the call that tells them
counting : List ℕ → List (List ℕ)
counting file = said (ply_counts file).answer ∷ []

-- files and what is told of them
pub count_rows : List Row
count_rows =
    row (counting two_file) ((2 ∷ 2 ∷ []) ∷ [])
    ∷ row (counting (lines "13" "0" ++ replicate 312 0)) ((13 ∷ 0 ∷ []) ∷ [])
    -- 14, 4 and 5 are not looked for
    ∷ row (counting (lines "1" "2" ++ replicate 24 255 ++ replicate 26 255)) ((1 ∷ 2 ∷ []) ∷ [])
    -- 13 is
    ∷ row (counting (lines "1" "2" ++ replicate 24 255 ++ replicate 25 255)) formless
    ∷ row (counting (lines "4194305" "0")) formless
    ∷ []

-- each is so
pub counts_told : faults count_rows ≡ []
unfolding count_rows counting formless lines four vertex_of face_of one minus far mixed two_file every_word every_rule
counts_told = refl

-- ---- 2, where a list would be too long to be written: of any mesh whose lengths are multiples of 3, and of any file of the form, whatever else is wrong

-- writing more than 4,194,304 points
pub write_points : (points : List Float) (faces : List ℕ) (r : WritePlyRooms) → eqb (length points % 3) 0 ≡ true →
    eqb (length faces % 3) 0 ≡ true → leb (length points / 3) 4194304 ≡ false → write_ply_check points faces r ≡ no 2 0
unfolding write_ply_check decided unless no1 no2
write_points points faces r p f many = rw (p, f, many)

-- writing more than 1,048,576 faces
pub write_faces : (points : List Float) (faces : List ℕ) (r : WritePlyRooms) → eqb (length points % 3) 0 ≡ true →
    eqb (length faces % 3) 0 ≡ true → leb (length points / 3) 4194304 ≡ true → leb (length faces / 3) 1048576 ≡ false →
    write_ply_check points faces r ≡ no 2 1
unfolding write_ply_check decided unless no1 no2
write_faces points faces r p f few many = rw (p, f, few, many)

-- reading more than 4,194,304 vertices
pub read_points : (file : List ℕ) (r : ReadPlyRooms) → no13 file ≡ ok → leb (vertices_in file) 4194304 ≡ false → read_ply_check file r ≡ no 2 0
unfolding read_ply_check decided unless no2
read_points file r form many = rw (form, many)

-- reading more than 1,048,576 faces
pub read_faces : (file : List ℕ) (r : ReadPlyRooms) → no13 file ≡ ok → leb (vertices_in file) 4194304 ≡ true → leb (faces_in_is file) 1048576 ≡ false →
    read_ply_check file r ≡ no 2 1
unfolding read_ply_check decided unless no2
read_faces file r form few many = rw (form, few, many)

-- the counts of more than 4,194,304 vertices
pub count_points : (file : List ℕ) → no13 file ≡ ok → leb (vertices_in file) 4194304 ≡ false → ply_counts_check file ≡ no 2 0
unfolding ply_counts_check decided unless no2
count_points file form many = rw (form, many)

-- and of more than 1,048,576 faces
pub count_faces : (file : List ℕ) → no13 file ≡ ok → leb (vertices_in file) 4194304 ≡ true → leb (faces_in_is file) 1048576 ≡ false →
    ply_counts_check file ≡ no 2 1
unfolding ply_counts_check decided unless no2
count_faces file form few many = rw (form, few, many)
