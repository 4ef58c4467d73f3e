-- `Places` has the faces that stand by their places in the rules' list.
pub mod Places
-- `Reading` has that what is read of a face is its view.
pub mod Reading
-- `Ranking` has the rules' ranking by places and by faces.
pub mod Ranking
-- `Input` has the words before any pass, and the origins of the faces that stand.
pub mod Input
