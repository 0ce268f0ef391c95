-- Stored where nothing refuses (Exits), else all as it was.
use Rattle.scr.proofs.Read.{colours-fit}
use Rattle.lent_scr.proofs.Exits.{accepted, record-long, screen-stored, unread}
use borrow.Author.Rules.{rules}
use Rattle.lent_scr.proofs.reading.read_scr_record.Goals as goal

pub store_screen-requires : goal.store_screen-requires
store_screen-requires c =
    let a = c.args in
    let f = c.shape_of-found in
    let b = c.read_current-read in
    let q = c.read_reply-r in
    let n = c.is_done in
    let z = c.if-is_done.true in
    let w = accepted a.bytes.now a.bank.now a.file.now b.result f.result q.result n.result b.ensures f.ensures q.ensures n.ensures z in
    (record-long a.bytes.now a.bank.now a.file.now b.result f.result q.result n.result b.ensures f.ensures q.ensures n.ensures z, w.sized, f.ensures, w.formed)

pub place-colours-requires : goal.place-colours-requires
place-colours-requires c =
    let a = c.args in
    let f = c.shape_of-found in
    let b = c.read_current-read in
    let q = c.read_reply-r in
    let n = c.is_done in
    let w = accepted a.bytes.now a.bank.now a.file.now b.result f.result q.result n.result b.ensures f.ensures q.ensures n.ensures c.if-is_done.true in
    colours-fit b.result.state a.file.now f.result f.ensures w.formed

pub returns-then-is_done : goal.returns-then-is_done
returns-then-is_done c =
    let a = c.args in
    let f = c.shape_of-found in
    let b = c.read_current-read in
    let q = c.read_reply-r in
    let n = c.is_done in
    let w = c.store_screen in
    screen-stored a.bytes.now a.bank.now a.file.now b.result f.result q.result n.result b.ensures f.ensures q.ensures n.ensures c.if-is_done.true c.place-colours.result _ _ c.place-colours.ensures w.ensures.0 w.ensures.1

pub returns-else-is_done : goal.returns-else-is_done
returns-else-is_done c =
    let a = c.args in
    let f = c.shape_of-found in
    let b = c.read_current-read in
    let q = c.read_reply-r in
    let n = c.is_done in
    unread a.bytes.now a.bank.now a.file.now b.result f.result q.result n.result b.ensures f.ensures q.ensures n.ensures c.if-is_done.false
