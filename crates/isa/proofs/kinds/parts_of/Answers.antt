use mathlib.Core.Bool.{true, false}
use mathlib.Core.Path.{refl, ap}
use mathlib.Core.List.{List, [], ◌∷◌}
use Prim.Native.Nat.{ℕ}
use Rattle.isa.specs.InstructionSet.{rows, row_of, kind_row, width, fill, value, immediate_bits, word_for}
use Rattle.isa.specs.Inner.{shape, shape_in}
use Rattle.isa.specs.declared.kinds.Shape.{Shape}
use Rattle.isa.specs.declared.kinds.Place.TheVariants.{None, Low5, Low16, Low26, Split}
use Rattle.isa.specs.declared.kinds.Form.TheVariants.{Zext, Sext, Jump}
use Rattle.isa.proofs.Shapes.{table_values}
use borrow.Author.Rules.{rules}
use Rattle.isa.proofs.kinds.parts_of.Goals as goal

-- the code's table

abbrev parts : List (ℕ × Shape)
parts =
    (0xfc000000, shape false false false None Zext) ∷
    (0xfc000000, shape false false false None Zext) ∷
    (0x00000000, shape false false false Low26 Jump) ∷
    (0x04000000, shape false false false Low26 Jump) ∷
    (0x0c000000, shape false false false Low26 Jump) ∷
    (0x10000000, shape false false false Low26 Jump) ∷
    (0x15000000, shape false false false Low16 Zext) ∷
    (0x18000000, shape true false false Low16 Zext) ∷
    (0x20000000, shape false false false Low16 Zext) ∷
    (0x21000000, shape false false false Low16 Zext) ∷
    (0x22000000, shape false false false None Zext) ∷
    (0x22800000, shape false false false None Zext) ∷
    (0x23000000, shape false false false None Zext) ∷
    (0x24000000, shape false false false None Zext) ∷
    (0x44000000, shape false false true None Zext) ∷
    (0x48000000, shape false false true None Zext) ∷
    (0x6c000000, shape true true false Low16 Sext) ∷
    (0x84000000, shape true true false Low16 Sext) ∷
    (0x88000000, shape true true false Low16 Sext) ∷
    (0x8c000000, shape true true false Low16 Sext) ∷
    (0x90000000, shape true true false Low16 Sext) ∷
    (0x94000000, shape true true false Low16 Sext) ∷
    (0x98000000, shape true true false Low16 Sext) ∷
    (0x9c000000, shape true true false Low16 Sext) ∷
    (0xa0000000, shape true true false Low16 Sext) ∷
    (0xa4000000, shape true true false Low16 Zext) ∷
    (0xa8000000, shape true true false Low16 Zext) ∷
    (0xac000000, shape true true false Low16 Sext) ∷
    (0xb4000000, shape true true false Low16 Zext) ∷
    (0xb8000000, shape true true false Low5 Zext) ∷
    (0xb8000040, shape true true false Low5 Zext) ∷
    (0xb8000080, shape true true false Low5 Zext) ∷
    (0xb80000c0, shape true true false Low5 Zext) ∷
    (0xbc000000, shape false true false Low16 Sext) ∷
    (0xbc200000, shape false true false Low16 Sext) ∷
    (0xbc400000, shape false true false Low16 Sext) ∷
    (0xbc600000, shape false true false Low16 Sext) ∷
    (0xbc800000, shape false true false Low16 Sext) ∷
    (0xbca00000, shape false true false Low16 Sext) ∷
    (0xbd400000, shape false true false Low16 Sext) ∷
    (0xbd600000, shape false true false Low16 Sext) ∷
    (0xbd800000, shape false true false Low16 Sext) ∷
    (0xbda00000, shape false true false Low16 Sext) ∷
    (0xc0000000, shape false true true Split Zext) ∷
    (0xcc000000, shape false true true Split Sext) ∷
    (0xd4000000, shape false true true Split Sext) ∷
    (0xd8000000, shape false true true Split Sext) ∷
    (0xdc000000, shape false true true Split Sext) ∷
    (0xe0000000, shape true true true None Zext) ∷
    (0xe0000001, shape true true true None Zext) ∷
    (0xe0000002, shape true true true None Zext) ∷
    (0xe0000003, shape true true true None Zext) ∷
    (0xe0000004, shape true true true None Zext) ∷
    (0xe0000005, shape true true true None Zext) ∷
    (0xe0000008, shape true true true None Zext) ∷
    (0xe0000048, shape true true true None Zext) ∷
    (0xe0000088, shape true true true None Zext) ∷
    (0xe00000c8, shape true true true None Zext) ∷
    (0xe000000c, shape true true false None Zext) ∷
    (0xe000004c, shape true true false None Zext) ∷
    (0xe000008c, shape true true false None Zext) ∷
    (0xe00000cc, shape true true false None Zext) ∷
    (0xe000000d, shape true true false None Zext) ∷
    (0xe000004d, shape true true false None Zext) ∷
    (0xe000000e, shape true true true None Zext) ∷
    (0xe000000f, shape true true false None Zext) ∷
    (0xe000010f, shape true true false None Zext) ∷
    (0xe4000000, shape false true true None Zext) ∷
    (0xe4200000, shape false true true None Zext) ∷
    (0xe4400000, shape false true true None Zext) ∷
    (0xe4600000, shape false true true None Zext) ∷
    (0xe4800000, shape false true true None Zext) ∷
    (0xe4a00000, shape false true true None Zext) ∷
    (0xe5400000, shape false true true None Zext) ∷
    (0xe5600000, shape false true true None Zext) ∷
    (0xe5800000, shape false true true None Zext) ∷
    (0xe5a00000, shape false true true None Zext) ∷
    (0xf8000800, shape false true false Split Sext) ∷
    (0xf8001000, shape false true false Split Sext) ∷
    (0xf8001800, shape false true false Split Sext) ∷
    (0xe0000306, shape true true true None Zext) ∷
    (0xb0000000, shape true true false Low16 Sext) ∷
    (0xe000030b, shape true true true None Zext) ∷
    (0xe0000309, shape true true true None Zext) ∷
    (0xe000030a, shape true true true None Zext) ∷
    (0x4c000000, shape false true false Low16 Sext) ∷
    (0xc4000001, shape false true true None Zext) ∷
    (0xc4000002, shape false true true None Zext) ∷
    (0x18010000, shape true false false None Zext) ∷ []

pub returns : goal.returns
unfolding rows row_of kind_row width fill value immediate_bits word_for
returns c =
    let e = table_values (λ k. (word_for (kind_row k) 0, shape_in (kind_row k))) parts refl c.args.k _ (search rules) in
    (ap (λ (p : ℕ × Shape). p.0) e, ap (λ (p : ℕ × Shape). p.1) e)
