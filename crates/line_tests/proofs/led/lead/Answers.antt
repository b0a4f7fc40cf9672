use Rattle.line_tests.proofs.led.lead.Goals as goal

-- each call keeps what the calls before it reached
pub returns-clause-kept : goal.returns-clause-kept
returns-clause-kept g c =
    let one = (c.arrive-enq_at_east.ensures.keeps _ c.in_ok-line.ensures.reached).0 in
    let two = (c.arrive-enq_at_west.ensures.keeps _ one).0 in
    let three = (c.arrive-reset_at_west.ensures.keeps _ two).0 in
    let four = (c.submit-submitted.ensures.keeps _ three).0 in
    let five = (c.arrive-reset_at_east.ensures.keeps _ four).0 in
    let six = (c.arrive-data_at_east.ensures.keeps _ five).0 in
    (c.read_out-read.ensures.call.keeps _ six).1
