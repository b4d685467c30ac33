-- `read_full` reads what stands at the buffer's front.
-- A read puts its bytes behind those that are there. Assumes nothing.
use Rattle.std.proofs.Common.{rules, ◌≡◌, ℕ, ◌+◌, ◌≤◌, List, ◌++◌, sym, ap, ◌∙◌, length, take, length-take-le}
use Rattle.std.proofs.KnownBytes.{Consumes-trans}
use lib.Seq.{take-append-add, take-append-le}
use Rattle.shop.proofs.read_full.Goals as goal

filled : (done n : ℕ) (buf part rest : List ℕ) → done ≤ length buf → n ≤ length part → take (done + n) (take done buf ++ (part ++ rest)) ≡ take done buf ++ take n part
filled done n buf part rest within fits =
    ap (λ k. take (k + n) (take done buf ++ (part ++ rest))) (sym (length-take-le done buf within)) ∙ take-append-add (take done buf) (part ++ rest) n
    ∙ ap (λ l. take done buf ++ l) (take-append-le n part rest fits)

pub loop-done-preserved : goal.loop-done-preserved
loop-done-preserved g c =
    let both = Consumes-trans _ _ _ _ _ c.loop-done.invariant.1 c.in-Ok.ensures.bytes.0 in
    (search rules, rw (filled c.loop-done.done c.in-Ok.n c.loop-done.buf c.read.new.buf _ c.loop-done.invariant.0 c.in-Ok.ensures.bound.0) both)
