mod ArcWriting
