use Rattle.segment_repair.proofs.CountLaws.{lost_counted, fresh_counted, used_page}
use Rattle.segment_repair.proofs.count.count_page.Goals as goal

pub returns-in-Lost : goal.returns-in-Lost
returns-in-Lost c = lost_counted c.args.judge.now.segment.now c.page.ensures c.in-Lost.ensures

pub returns-in-Fresh : goal.returns-in-Fresh
returns-in-Fresh c = fresh_counted c.args.judge.now.segment.now c.page.ensures c.in-Fresh.ensures

pub count_used-requires : goal.count_used-requires
count_used-requires c = used_page c.args.judge.now.segment.now c.page.ensures c.requires c.in-Used.slots c.in-Used.ensures
