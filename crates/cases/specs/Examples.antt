-- The worked examples of the rules, from a fix_word to a whole run, as one statement about the definitions.
use Rattle.std.specs.Prelude.{◌≡◌, ℕ, ◌*◌, ◌-◌, ◌^◌, cond, List, [], ◌∷◌, ◌++◌, take, drop, replicate, pos, negsuc, Some, None, Ok, ◌==◌}
use Rattle.numbers.specs.FixWords.{scaled}
use Rattle.numbers.specs.Lengths.{moved_to}
use Rattle.shelf.specs.declared.refusals.Refusal.TheVariants.{RunClosed, OutputFull, NothingToStrike, BadOutput, DocumentLength, OtherMag, NoPage}
use Rattle.shelf.specs.Meaning.{Meaning, FaceMeaning, face_outcome}
use Rattle.copies.specs.declared.pairs.Pair.{Pair}
use Rattle.copies.specs.Files.{Opening, front_bytes}
use Rattle.copies.specs.Marks.{move_bytes}
use Rattle.copies.specs.Pages.{Progress}
use Rattle.copies.specs.Writing.{overwritten}
use Rattle.rank.specs.Adding.{AllAdded, added_all}
use Rattle.rank.specs.Ranks.{rank_of}
use Rattle.ledgers.specs.Sources.{Source}
use Rattle.ledgers.specs.Steps.{View, Act, copy, strike, close, Answer, done, long, refused, Seen, stepped, fresh}
use Rattle.ledgers.specs.Ledgers.{Call, ledger, rulings}

-- ---- numbers

abbrev Scaling : Type 0
Scaling =
    (scaled 655360 524288 ≡ Some (pos 327680))
    × (scaled 655360 (2 ^ 32 - 524288) ≡ Some (negsuc 327679))
    × (scaled 655360 1 ≡ Some (pos 0))
    × (scaled 655360 (2 ^ 32 - 1) ≡ Some (negsuc 0))
    × (scaled 655360 16777216 ≡ None)
    × (scaled 8388609 1048576 ≡ Some (pos 8388608))

-- moves to the right, each in its shortest form
abbrev Moves : Type 0
Moves =
    (move_bytes 142 (pos 127) ≡ 143 ∷ 127 ∷ [])
    × (move_bytes 142 (pos 128) ≡ 144 ∷ 0 ∷ 128 ∷ [])
    × (move_bytes 142 (negsuc 128) ≡ 144 ∷ 255 ∷ 127 ∷ [])
    × (move_bytes 142 (pos 0) ≡ [])

-- the last position, and one more
abbrev Positions : Type 0
Positions = (moved_to (pos 1073741822) (pos 1) ≡ Some (pos 1073741823)) × (moved_to (pos 1073741823) (pos 1) ≡ None)

-- ---- a face, a VF font over it, and documents of one page

-- the face `b` has the code 65
abbrev face : FaceMeaning
face = record { facts = record { name = 98 ∷ []; checksum = 0; design = 10485760 }; width_at = λ size code. cond (code == 65) (Some (pos 0)) None }

abbrev below : Meaning
below = record { names = (98 ∷ []) ∷ []; faces = face ∷ []; outcome = λ font size code h v. face_outcome 0 (face.width_at size code) size code h v }

-- `b` at its own size, and code 1
abbrev virtual : List ℕ
virtual =
    247 ∷ 202 ∷ 0 ∷ 0 ∷ 0 ∷ 0 ∷ 0 ∷ 0 ∷ 160 ∷ 0 ∷ 0
    ∷ 243 ∷ 0 ∷ 0 ∷ 0 ∷ 0 ∷ 0 ∷ 0 ∷ 16 ∷ 0 ∷ 0 ∷ 0 ∷ 160 ∷ 0 ∷ 0 ∷ 0 ∷ 1 ∷ 98
    ∷ 5 ∷ 1 ∷ 0 ∷ 8 ∷ 0 ∷ 145 ∷ 8 ∷ 0 ∷ 0 ∷ 65 ∷ 248 ∷ 248 ∷ []

abbrev filed : AllAdded
filed = added_all below ([], []) (record { name = 118 ∷ []; file = virtual } ∷ [])

-- the rank with that file, under the name `v`
abbrev shelf : Meaning
shelf = rank_of below filed.0

-- num, den, and a mag
abbrev units : ℕ → List ℕ
units mag = 1 ∷ 131 ∷ 146 ∷ 192 ∷ 28 ∷ 59 ∷ 0 ∷ 0 ∷ 0 ∷ 0 ∷ 3 ∷ mag ∷ []

-- one page at 15, whose commands have three bytes; font 0 is `v` at a size of 65,536 times this
abbrev document : ℕ → ℕ → List ℕ → List ℕ
document mag size commands =
    247 ∷ 2 ∷ (units mag ++ (0 ∷ 139 ∷ (replicate 40 0 ++ (255 ∷ 255 ∷ 255 ∷ 255 ∷ (commands
    ++ (248 ∷ 0 ∷ 0 ∷ 0 ∷ 15 ∷ (units mag ++ (replicate 11 0 ++ (1 ∷ 243 ∷ 0 ∷ 0 ∷ 0 ∷ 0 ∷ 0 ∷ 0 ∷ size ∷ 0 ∷ 0 ∷ 0 ∷ 10 ∷ 0 ∷ 0 ∷ 0 ∷ 1 ∷ 118
    ∷ 249 ∷ 0 ∷ 0 ∷ 0 ∷ 63 ∷ 2 ∷ 223 ∷ 223 ∷ 223 ∷ 223 ∷ [])))))))))

abbrev page_at : ℕ → Source
page_at size = record { document = document 232 size (171 ∷ 1 ∷ 140 ∷ []); page = 1 }

abbrev opening : Opening
opening = record { mag = 1000; l = 0; u = 0 }

-- a run opened on such a document, in an output of 300 bytes
abbrev start : List ℕ
start = overwritten 0 (front_bytes 1000) (replicate 300 170)

abbrev run : View
run = fresh shelf opening

-- ---- a page copied, and the file closed

abbrev copied : Seen
copied = stepped run (copy (page_at 10) 1) start

abbrev Copied : Type 0
Copied =
    (filed.1 ≡ Ok tt ∷ [])
    × (copied.answer ≡ done)
    × (take 25 (drop 60 copied.out) ≡ 145 ∷ 5 ∷ 0 ∷ 0 ∷ 243 ∷ 0 ∷ 0 ∷ 0 ∷ 0 ∷ 0 ∷ 0 ∷ 10 ∷ 0 ∷ 0 ∷ 0 ∷ 10 ∷ 0 ∷ 0 ∷ 0 ∷ 1 ∷ 98 ∷ 171 ∷ 133 ∷ 65 ∷ 140 ∷ [])
    × (take 1 (drop 85 copied.out) ≡ 170 ∷ [])
    × ((stepped copied.run close copied.out).answer ≡ long 144)
    × ((stepped run close start).answer ≡ long 56)

-- ---- a second page brings a pair of its own, and is struck

abbrev twice : Seen
twice = stepped copied.run (copy (page_at 20) 1) copied.out

abbrev struck : Seen
struck = stepped twice.run strike twice.out

abbrev pair : ℕ → ℕ → Pair
pair size place = record { face = 0; size = 65536 * size; place = place }

abbrev come : ℕ → ℕ → ℕ → List Pair → Progress
come used last count pairs = record { used = used; last = last; count = count; pairs = pairs }

-- the page, its pair and nothing else goes; the next new pair has the number again
abbrev Struck : Type 0
Struck =
    (twice.run.come ≡ Some (come 155 85 2 (pair 10 64 ∷ pair 20 134 ∷ [])))
    × (struck.run.come ≡ Some (come 85 15 1 (pair 10 64 ∷ [])))
    × (struck.out ≡ twice.out)
    × ((stepped struck.run (copy (page_at 30) 1) struck.out).run.come ≡ Some (come 155 85 2 (pair 10 64 ∷ pair 30 134 ∷ [])))
    × ((stepped struck.run (copy (page_at 10) 1) struck.out).run.come ≡ Some (come 138 85 2 (pair 10 64 ∷ [])))

-- ---- the ledger, and each call's refusals in their order

abbrev call : Act → ℕ → Call
call act room = record { act = act; room = room }

abbrev ruled_first : Act → ℕ → List Answer
ruled_first act room = rulings shelf opening (call act room ∷ [])

abbrev Ruled : Type 0
Ruled =
    ((ledger shelf opening (call strike 300 ∷ call (copy (page_at 20) 1) 300 ∷ call (copy (page_at 10) 1) 300 ∷ [])).sources ≡ page_at 10 ∷ [])
    × (ruled_first strike 200 ≡ refused NothingToStrike ∷ [])
    × (ruled_first strike 0 ≡ refused NothingToStrike ∷ [])
    × (ruled_first (copy (page_at 10) 1) 14 ≡ refused BadOutput ∷ [])
    × (ruled_first (copy (record { document = []; page = 1 }) 1) 200 ≡ refused (DocumentLength 0) ∷ [])
    × (ruled_first (copy (record { document = document 231 10 (171 ∷ 1 ∷ 140 ∷ []); page = 2 }) 1) 200 ≡ refused OtherMag ∷ [])
    × (ruled_first (copy (record { document = document 232 10 (171 ∷ 1 ∷ 140 ∷ []); page = 2 }) 1) 200 ≡ refused NoPage ∷ [])
    × (ruled_first (copy (page_at 10) 1) 143 ≡ refused OutputFull ∷ [])
    × (ruled_first (copy (page_at 10) 1) 144 ≡ done ∷ [])
    × (ruled_first close 55 ≡ refused OutputFull ∷ [])
    × (rulings shelf opening (call close 200 ∷ call close 200 ∷ []) ≡ refused RunClosed ∷ long 56 ∷ [])

abbrev pub WorkedExamples : Type 0
WorkedExamples = Scaling × Moves × Positions × Copied × Struck × Ruled
