-- `savefile::file_header` meets its contract: each way out is a case of the table of checks, or what its magic says.
use Rattle.std.proofs.Common.{sym, ◌∙◌, arith, ℕ, ◌≡◌, ◌≤◌, List, length, Some}
use Rattle.fields.specs.Number.{big, unsigned_at, field}
use Rattle.fields.proofs.Opened.{is_number, never_missing}
use Rattle.savefile.proofs.Header.{too_long, too_short, wrong_mark, by_magic}
use Rattle.savefile.proofs.file_header.Goals as goal

-- From 24 bytes on the magic is there.
read_is : (bytes : List ℕ) (n : ℕ) → 24 ≤ length bytes → Some n ≡ field (λ n. n) big 4 bytes 0 → n ≡ unsigned_at big 4 bytes 0
read_is bytes n h e = is_number (λ n. n) big 4 bytes 0 (omega arith) e

pub returns-in_err-check_len : goal.returns-in_err-check_len
returns-in_err-check_len c = grind (arith, too_long)

pub returns-then-data-lt-FILE_HEADER_LEN : goal.returns-then-data-lt-FILE_HEADER_LEN
returns-then-data-lt-FILE_HEADER_LEN c = too_short _ _ c.in_ok-check_len.ensures.short_enough c.if-data-lt-FILE_HEADER_LEN.true

pub returns-in_default : goal.returns-in_default
returns-in_default c = never_missing _ big 4 c.args.«data».now 0 (omega arith) (sym c.in_default.is ∙ c.read.ensures)

pub returns-in-3569595041 : goal.returns-in-3569595041
returns-in-3569595041 c =
    let magic = read_is c.args.«data».now _ c.if-data-lt-FILE_HEADER_LEN.false (sym c.in-Some.is ∙ c.read.ensures) in
    rw c.format_by.ensures (by_magic _ _ c.in_ok-check_len.ensures.short_enough c.if-data-lt-FILE_HEADER_LEN.false _ (sym c.in-3569595041.is ∙ magic))

pub returns-in-1295823521 : goal.returns-in-1295823521
returns-in-1295823521 c =
    let magic = read_is c.args.«data».now _ c.if-data-lt-FILE_HEADER_LEN.false (sym c.in-Some.is ∙ c.read.ensures) in
    rw c.format_by-in-1295823521.ensures (by_magic _ _ c.in_ok-check_len.ensures.short_enough c.if-data-lt-FILE_HEADER_LEN.false _ (sym c.in-1295823521.is ∙ magic))

pub returns-in-2712847316 : goal.returns-in-2712847316
returns-in-2712847316 c =
    let magic = read_is c.args.«data».now _ c.if-data-lt-FILE_HEADER_LEN.false (sym c.in-Some.is ∙ c.read.ensures) in
    rw c.format_by-in-2712847316.ensures (by_magic _ _ c.in_ok-check_len.ensures.short_enough c.if-data-lt-FILE_HEADER_LEN.false _ (sym c.in-2712847316.is ∙ magic))

pub returns-in-2712812621 : goal.returns-in-2712812621
returns-in-2712812621 c =
    let magic = read_is c.args.«data».now _ c.if-data-lt-FILE_HEADER_LEN.false (sym c.in-Some.is ∙ c.read.ensures) in
    rw c.format_by-in-2712812621.ensures (by_magic _ _ c.in_ok-check_len.ensures.short_enough c.if-data-lt-FILE_HEADER_LEN.false _ (sym c.in-2712812621.is ∙ magic))

pub returns-in_default-magic : goal.returns-in_default-magic
returns-in_default-magic c =
    let magic = read_is c.args.«data».now _ c.if-data-lt-FILE_HEADER_LEN.false (sym c.in-Some.is ∙ c.read.ensures) in
    wrong_mark _ _ c.in_ok-check_len.ensures.short_enough c.if-data-lt-FILE_HEADER_LEN.false c.in-Some.magic magic (λ e. omega arith) (λ e. omega arith) (λ e. omega arith) (λ e. omega arith)
